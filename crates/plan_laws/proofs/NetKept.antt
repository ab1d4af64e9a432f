-- Kept waits stay so over a call at once, where they are those that its net change leaves.
use Rattle.std.proofs.Common.{◌≡◌, ℕ, List, [], ◌∷◌, ◌++◌, Some, None, refl, sym, ◌∙◌, subst, ◌⊎◌, inl, inr, append_assoc, append-nil}
use Rattle.std.specs.Prelude.{⊤}
use Rattle.akl_terms.specs.declared.name.Name.{Name}
use Rattle.akl_terms.specs.declared.name.Var.{Var}
use Rattle.akl_terms.specs.declared.name.Place.{Place}
use Rattle.akl_terms.specs.declared.program.Program.{Program}
use Rattle.akl_terms.specs.declared.program.Query.{Query}
use Rattle.akl_model.specs.declared.label.Rule.{Rule}
use Rattle.akl_model.specs.declared.label.Label.{Label}
use Rattle.akl_model.specs.Config.{Content, Boxes, box, no_boxes, no_goals, Goals, Config, held_in, without_goal, Found, box_at, home_of}
use Rattle.akl_model.specs.Rules.{joining}
use Rattle.akl_model.specs.Changes.{goal_names}
use Rattle.akl_model.specs.Derivations.{Applies, Replays}
use Rattle.akl_model.specs.Wakes.{IsOneOf, IsThere, Wait, IsKept, Opens, IsKeptAfterCommit}
use Rattle.akl_model.proofs.NamesKept.{Stand, replay-stands, stands_after}
use Rattle.plan_laws.proofs.Replayed.{replay_further}
use Rattle.step_laws.specs.Stays.{HaveShape}
use Rattle.step_laws.proofs.There.{site_there, there_site}
use Rattle.plan_laws.specs.Kept.{AreLeftByCommit}
use Rattle.plan_laws.specs.Waits.{AreWaits}
use Rattle.plan_laws.proofs.KeptByCommit.{kept_by_commit}
use Rattle.plan_laws.specs.AtOnce.{by, with_named, IsAtOnce, at_once, AreInForce}
use Rattle.plan_laws.specs.Wakes.{TellsNothing}
use Rattle.plan_laws.proofs.CallAlternatives.{Calling, between, AreNew, IsPassing, its_goal, new_goal, new_box, Steps, stops, goes}
use Rattle.plan_laws.proofs.BodySteps.{homed, Reduces, rests, reduces}
use Rattle.plan_laws.proofs.CallPassage.{body_passage, body_goals, drawn, joined_stands, told_behind, end_further, passed, box_opens, promote_opens, behind_opens}
use Rattle.plan_laws.proofs.Calls.{calling, forked, fork_applies, fork_adds, forked_new, forked_stand, middle, steps, promoted}
use Rattle.plan_laws.proofs.Further.{there_further, further_along}
use Rattle.plan_laws.proofs.OpensAlike.{alike_back, other_name}
use Rattle.plan_laws.proofs.CallsOutside.{Before, alike_some, IsTouched, its_box, passes, outside_itself, outside, opened_between}
use Rattle.plan_laws.proofs.Passages.{opens_first, opens_then}
use Rattle.plan_laws.proofs.Sifted.{joined_to}
use Rattle.plan_laws.proofs.CallWaits.{opens_too}

-- what is there before the call, and doesn't pass with it, is there between its labels
pub there_between : (k : Calling) (bs : Boxes) → Stand (between k bs) → AreNew k bs → (place : Place) → IsThere place k.config.roots → (IsPassing k place → ⊥) → IsThere place (between k bs).roots
there_between k bs s new (Place.Goal g) there n =
    let f : (f : Found) × (home_of g k.config.roots ≡ Some f) = there_site (Place.Goal g) k.config.roots there in
    let e : Before (λ (u v : Goals). HaveShape (held_in g v) (held_in g u)) (home_of g (between k bs).roots) f.0 =
    alike_some (λ (u v : Goals). HaveShape (held_in g v) (held_in g u)) (home_of g (between k bs).roots) (home_of g k.config.roots) f.0
    (alike_back (λ (u v : Goals). HaveShape (held_in g u) (held_in g v)) (λ (u v : Goals). HaveShape (held_in g v) (held_in g u)) (λ u v q. q) (home_of g k.config.roots) (home_of g (between k bs).roots)
    ((outside k bs s new).homes g (λ h. n (new_goal g h)) (other_name k g (λ q. n (subst (λ (i : Name). IsPassing k (Place.Goal i)) (sym q) its_goal))))) f.1 in
    site_there (Place.Goal g) (between k bs).roots e.before e.found
there_between k bs s new (Place.Box n) there h =
    let f : (f : Found) × (box_at n k.config.roots ≡ Some f) = there_site (Place.Box n) k.config.roots there in
    let e : Before (λ (u v : Goals). goal_names v ≡ goal_names u) (box_at n (between k bs).roots) f.0 = alike_some (λ (u v : Goals). goal_names v ≡ goal_names u) (box_at n (between k bs).roots) (box_at n k.config.roots) f.0
    (alike_back (λ (u v : Goals). goal_names u ≡ goal_names v) (λ (u v : Goals). goal_names v ≡ goal_names u) (λ u v q. q) (box_at n k.config.roots) (box_at n (between k bs).roots) ((outside k bs s new).boxes n (λ i. h (new_box n i)))) f.1 in
    site_there (Place.Box n) (between k bs).roots e.before e.found

module _ (rules : List Rule) (force : AreInForce rules) (p : Program) (q : Query) (c : Config) (s : Stand c) (w : ℕ) (g : Name) (f : Found) (is_home : home_of g c.roots ≡ Some f) (x : IsAtOnce p c w g f) (tells : TellsNothing x)
    (before : List Place) (waits : List Wait) (h : AreWaits c before waits) (waits_now : List Wait) (left : AreLeftByCommit waits c (at_once x) waits_now) where
  abbrev k : Calling
  k = calling rules force p c s w g f is_home x

  abbrev first : Boxes
  first = forked rules force p c s w g f is_home x

  abbrev last : Boxes
  last = box x.last no_goals no_boxes

  abbrev fork : Label
  fork = by w Rule.Fork (Place.Goal g) None

  abbrev promote : Label
  promote = by w Rule.Promote (Place.Goal g) (Some x.last.name)

  abbrev m : ℕ
  m = drawn rules force p c s w g f is_home x ⊤ (λ u. tells)

  still : (place : Place) (v : Var) → IsKept waits_now place v → IsKeptAfterCommit waits c (at_once x) place v
  still place v y = left.each place v y

  -- the waits that are left at the end are kept at each configuration between
  record StillKept (journal : List Label) (n : Config) : Type 0 where
    pub are_waits : AreWaits n [] waits_now
    pub replays : Replays rules p q journal n

  over : (journal : List Label) (n : Config) (l : Label) (o : Config) → StillKept journal n → Applies rules p n l o → ((place : Place) (v : Var) → IsKept waits_now place v → Opens waits_now n o place → ⊥)
      → ((place : Place) (v : Var) → IsKept waits_now place v → IsThere place o.roots) → StillKept (journal ++ l ∷ []) o
  over journal n l o r a shut there = record {
    are_waits = kept_by_commit rules p q journal n l o r.replays a [] waits_now [] waits_now r.are_waits (λ place i. absurd i) (record { each = λ place v y. record { kept = y; unopened = shut place v y; there = there place v y }; all = λ place v y. y.kept });
    replays = replay_further rules p q journal n l o r.replays a;
  }

  begin : (journal : List Label) → Replays rules p q journal c → StillKept journal c
  begin journal r = record {
    are_waits = record {
      there = λ place v y. h.there place v (still place v y).kept;
      closed = λ place v y i. i;
      scoped = λ place v y. h.scoped place v (still place v y).kept;
      oldest = λ place v y e i good free u o. left.all place u (record { kept = h.oldest place v (still place v y).kept e i good free u o; unopened = (still place v y).unopened; there = (still place v y).there });
    };
    replays = r;
  }

  -- none of these waits is of a place that the net change opens
  untold : (place : Place) (v : Var) → IsKept waits_now place v → Opens waits_now c (at_once x) place → ⊥
  untold place v y o = (still place v y).unopened (opens_too waits_now waits c (at_once x) place (λ u i. (still place u i).kept) o)

  untouched : (place : Place) (v : Var) → IsKept waits_now place v → IsTouched k place → ⊥
  untouched _ v y its_box = (still (Place.Box f.content.name) v y).unopened (box_opens rules force p c s w g f is_home x ⊤ (λ u. tells) waits)
  untouched _ v y (passes place i) = passed rules force p c s w g f is_home x ⊤ (λ u. tells) place i (still place v y).there

  there_still : (bs : Boxes) → Stand (between k bs) → AreNew k bs → (place : Place) (v : Var) → IsKept waits_now place v → IsThere place (between k bs).roots
  there_still bs t new place v y = there_between k bs t new place (h.there place v (still place v y).kept) (λ i. passed rules force p c s w g f is_home x ⊤ (λ u. tells) place i (still place v y).there)

  sifts : (bs : Boxes) (ls : List Label) (cs : Boxes) → Steps k ⊤ bs ls cs → (journal : List Label) → Stand (between k bs) → AreNew k bs → StillKept journal (between k bs) → StillKept (journal ++ ls) (between k cs)
  sifts _ _ _ (stops bs) journal t n r = subst (λ (ls : List Label). StillKept ls (between k bs)) (sym (append-nil journal)) r
  sifts _ _ _ (goes l bs cs ls ds new at a none y) journal t n r =
      let u : Stand (between k cs) = stands_after rules p (between k bs) l (between k cs) t a in
      subst (λ (js : List Label). StillKept js (between k ds)) (append_assoc journal (l ∷ []) ls)
      (sifts cs ls ds y (journal ++ l ∷ []) u new
      (over journal (between k bs) l (between k cs) r a (λ place v z o. untouched place v z (opened_between k waits_now (between k bs) (outside k bs t n) cs u new (none tt) place o)) (there_still cs u new)))

  tells_on : (b : Content) (gs : Goals) (ls : List Label) → Reduces k m b gs ls x.after (with_named x.goals_left (without_goal g f.goals)) → b.name ≡ f.content.name → Stand (homed k m b gs)
      → ((place : Place) (v : Var) → IsKept waits_now place v → Opens waits_now (homed k m b gs) (at_once x) place → ⊥) → (journal : List Label) → StillKept journal (homed k m b gs) → StillKept (journal ++ ls) (at_once x)
  tells_on _ _ _ (rests b gs) its t shut journal r = subst (λ (ls : List Label). StillKept ls (at_once x)) (sym (append-nil journal)) r
  tells_on _ _ _ (reduces b gs l b1 gs1 ls b2 gs2 y z) its t shut journal r =
      let u : Stand (homed k m b1 gs1) = stands_after rules p (homed k m b gs) l (homed k m b1 gs1) t y.applies in
      let v : _ = body_passage k m b gs l b1 gs1 ls x.after (with_named x.goals_left (without_goal g f.goals)) y z its t x.consistent in
      subst (λ (js : List Label). StillKept js (at_once x)) (append_assoc journal (l ∷ []) ls)
      (tells_on b1 gs1 ls z (y.name ∙ its) u (λ place i j o. shut place i j (opens_then f.content.name (homed k m b gs) (homed k m b1 gs1) (at_once x) v waits_now place (still place i j).there o)) (journal ++ l ∷ [])
      (over journal (homed k m b gs) l (homed k m b1 gs1) r y.applies
      (λ place i j o. shut place i j (opens_first f.content.name (homed k m b gs) (homed k m b1 gs1) (at_once x) v waits_now place (still place i j).there o))
      (λ place i j. there_further f.content.name (homed k m b1 gs1) (at_once x) (further_along k m b1 gs1 ls x.after (with_named x.goals_left (without_goal g f.goals)) z (y.name ∙ its) u) place (still place i j).there)))

  module _ (journal : List Label) (r : Replays rules p q journal c) where
    forks : StillKept (journal ++ fork ∷ []) (between k first)
    forks = over journal c fork (between k first) (begin journal r) (fork_applies rules force p c s w g f is_home x)
        (λ place v y o. untouched place v y (opened_between k waits_now c (outside_itself k) first (forked_stand rules force p c s w g f is_home x) (forked_new rules force p c s w g f is_home x) (fork_adds rules force p c s w g f is_home x) place o))
        (there_still first (forked_stand rules force p c s w g f is_home x) (forked_new rules force p c s w g f is_home x))

    sifted : StillKept ((journal ++ fork ∷ []) ++ middle rules force p c s w g f is_home x ⊤ (λ u. tells)) (between k last)
    sifted = sifts first (middle rules force p c s w g f is_home x ⊤ (λ u. tells)) last (steps rules force p c s w g f is_home x ⊤ (λ u. tells)) (journal ++ fork ∷ []) (forked_stand rules force p c s w g f is_home x)
        (forked_new rules force p c s w g f is_home x) forks

    promotes : StillKept (((journal ++ fork ∷ []) ++ middle rules force p c s w g f is_home x ⊤ (λ u. tells)) ++ promote ∷ []) (joined_to k x.last)
    promotes = over ((journal ++ fork ∷ []) ++ middle rules force p c s w g f is_home x ⊤ (λ u. tells)) (between k last) promote (joined_to k x.last) sifted (promoted rules force p c s w g f is_home x ⊤ (λ u. tells))
        (λ place v y o. untold place v y (promote_opens rules force p c s w g f is_home x ⊤ (λ u. tells) waits_now place (still place v y).there o))
        (λ place v y. there_further f.content.name (joined_to k x.last) (at_once x) (end_further rules force p c s w g f is_home x ⊤ (λ u. tells)) place (still place v y).there)

    told : StillKept ((((journal ++ fork ∷ []) ++ middle rules force p c s w g f is_home x ⊤ (λ u. tells)) ++ promote ∷ []) ++ x.body_labels) (at_once x)
    told = tells_on (joining x.last f.content) (body_goals rules force p c s w g f is_home x ⊤ (λ u. tells)) x.body_labels (told_behind rules force p c s w g f is_home x ⊤ (λ u. tells)) refl (joined_stands rules force p c s w g f is_home x ⊤ (λ u. tells))
        (λ place v y o. untold place v y (behind_opens rules force p c s w g f is_home x ⊤ (λ u. tells) waits_now place (still place v y).there o))
        (((journal ++ fork ∷ []) ++ middle rules force p c s w g f is_home x ⊤ (λ u. tells)) ++ promote ∷ []) promotes

    pub waits_left : (now : List Place) → ((place : Place) → IsOneOf place now → IsOneOf place before ⊎ Opens waits c (at_once x) place) → AreWaits (at_once x) now waits_now
    waits_left now opens = record {
      there = told.are_waits.there;
      closed = λ place v y o. elim (opens place o) [ inl b ↦ h.closed place v (still place v y).kept b | inr b ↦ (still place v y).unopened b ];
      scoped = told.are_waits.scoped;
      oldest = told.are_waits.oldest;
    }

pub net_kept : (rules : List Rule) → AreInForce rules → (p : Program) (q : Query) (journal : List Label) (c : Config) → Replays rules p q journal c → (w : ℕ) (g : Name) (f : Found) → home_of g c.roots ≡ Some f
    → (x : IsAtOnce p c w g f) → TellsNothing x → (before : List Place) (waits : List Wait) (now : List Place) (waits_now : List Wait) → AreWaits c before waits
    → ((place : Place) → IsOneOf place now → IsOneOf place before ⊎ Opens waits c (at_once x) place) → AreLeftByCommit waits c (at_once x) waits_now → AreWaits (at_once x) now waits_now
net_kept rules force p q journal c r w g f is_home x tells before waits now waits_now h opens left =
    waits_left rules force p q c (replay-stands rules p q journal c r) w g f is_home x tells before waits h waits_now left journal r now opens
