-- A run goes on by all labels of a call at once.
use Rattle.std.proofs.Common.{◌≡◌, ℕ, List, [], ◌∷◌, ◌++◌, Some, None, refl, sym, ◌∙◌, ap, subst, inl, inr, append_assoc, append-nil}
use Rattle.std.specs.Prelude.{⊤}
use Rattle.akl_terms.specs.declared.name.Name.{Name}
use Rattle.akl_terms.specs.declared.name.Var.{Var}
use Rattle.akl_terms.specs.declared.name.Place.{Place}
use Rattle.akl_terms.specs.declared.program.Program.{Program}
use Rattle.akl_terms.specs.declared.program.Query.{Query}
use Rattle.akl_model.specs.declared.label.Rule.{Rule}
use Rattle.akl_model.specs.declared.label.Label.{Label}
use Rattle.akl_model.specs.Config.{Content, Boxes, box, no_boxes, Goals, no_goals, Config, without_goal, Found, home_of}
use Rattle.akl_model.specs.Rules.{joining}
use Rattle.akl_model.specs.Derivations.{Applies}
use Rattle.akl_model.specs.Wakes.{IsOneOf, IsThere, Wait, IsKept, Opens, IsOpenAfterCommit}
use Rattle.akl_model.proofs.NamesKept.{Stand, replay-stands, stands_after}
use Rattle.plan_laws.specs.Runs.{Runs, commits}
use Rattle.plan_laws.proofs.IdlePlaces.{runs_replay}
use Rattle.step_laws.proofs.Decide.{there_or}
use Rattle.plan_laws.specs.AtOnce.{by, with_named, IsAtOnce, labels_at_once, at_once, AreInForce}
use Rattle.plan_laws.specs.Wakes.{TellsNothing, CommitsNet}
use Rattle.plan_laws.proofs.AllPlaces.{all_places, opened_listed, gone_among, gone_in, gone_of}
use Rattle.plan_laws.proofs.CallAlternatives.{Calling, between, AreNew, Steps, stops, goes}
use Rattle.plan_laws.proofs.BodySteps.{homed, Reduces, rests, reduces}
use Rattle.plan_laws.proofs.CallPassage.{body_passage, body_goals, drawn, joined_stands, told_behind, passed, box_opens, promote_opens, behind_opens}
use Rattle.plan_laws.proofs.Calls.{calling, forked, fork_applies, fork_adds, forked_new, forked_stand, middle, steps, promoted, all_labels}
use Rattle.plan_laws.proofs.Drops.{drops_gone}
use Rattle.plan_laws.proofs.Less.{places_of, one_of_left, one_of_right, one_of_either}
use Rattle.plan_laws.proofs.CallsOutside.{IsTouched, its_box, passes, outside_itself, outside, opened_between}
use Rattle.plan_laws.proofs.Passages.{opens_first, opens_then}
use Rattle.plan_laws.proofs.Reopens.{reopened}
use Rattle.plan_laws.proofs.Sifted.{joined_to}
use Rattle.plan_laws.proofs.CallWaits.{opens_too, waits_beside, beside_of}

module _ (rules : List Rule) (force : AreInForce rules) (p : Program) (q : Query) (c : Config) (s : Stand c) (w : ℕ) (g : Name) (f : Found) (is_home : home_of g c.roots ≡ Some f) (x : IsAtOnce p c w g f) (tells : TellsNothing x)
    (before : List Place) (waits : List Wait) (now : List Place) (waits_now : List Wait) (net : CommitsNet c (by w Rule.Fork (Place.Goal g) None) (at_once x) before waits now waits_now) where
  abbrev k : Calling
  k = calling rules force p c s w g f is_home x

  abbrev first : Boxes
  first = forked rules force p c s w g f is_home x

  abbrev last : Boxes
  last = box x.last no_goals no_boxes

  abbrev fork : Label
  fork = by w Rule.Fork (Place.Goal g) None

  abbrev promote : Label
  promote = by w Rule.Promote (Place.Goal g) (Some x.last.name)

  abbrev between_labels : List Label
  between_labels = middle rules force p c s w g f is_home x ⊤ (λ u. tells)

  -- the waits of what isn't open at the end are kept throughout
  abbrev held : List Wait
  held = waits_beside now waits

  held_waits : (place : Place) (v : Var) → IsKept held place v → IsKept waits place v
  held_waits place v y = (beside_of place v now waits y).0

  -- a run up to a configuration between: what is open there and is there at the end is open at the end
  record Reached (journal : List Label) (m : Config) : Type 0 where
    pub places : List Place
    pub runs : Runs rules p q journal m places held
    pub open_now : (place : Place) → IsThere place (at_once x).roots → IsOneOf place places → IsOneOf place now

  commit : (journal : List Label) (m : Config) (l : Label) (n : Config) → Stand n → Reached journal m → Applies rules p m l n → ((place : Place) → IsThere place (at_once x).roots → Opens held m n place → IsOneOf place now) → Reached (journal ++ l ∷ []) n
  commit journal m l n t r a opens = record {
    places = r.places ++ (now ++ gone);
    runs = commits r.runs (record {
      applies = a;
      opens = λ place o. elim o [
        | IsOpenAfterCommit.stays h i ↦ one_of_left place r.places (now ++ gone) h
        | IsOpenAfterCommit.opened y ↦ one_of_right place r.places (now ++ gone) (elim (there_or place (at_once x).roots) [
          | inl there ↦ one_of_left place now gone (opens place there y)
          | inr lost ↦ one_of_right place now gone (gone_in (at_once x).roots place (all_places n.roots ++ places_of held) lost (opened_listed held m n t place y))
        ])
      ];
      keeps = λ place v y. y.kept;
    });
    open_now = λ place there i. elim (one_of_either place r.places (now ++ gone) i) [
      | inl h ↦ r.open_now place there h
      | inr h ↦ elim (one_of_either place now gone h) [ inl o ↦ o | inr o ↦ absurd (gone_of (at_once x).roots place (all_places n.roots ++ places_of held) o there) ]
    ];
  }
    where
      gone : List Place
      gone = gone_among (at_once x).roots (all_places n.roots ++ places_of held)

  touched : (place : Place) → IsThere place (at_once x).roots → IsTouched k place → IsOneOf place now
  touched _ there its_box = net.opens (Place.Box f.content.name) (IsOpenAfterCommit.opened (box_opens rules force p c s w g f is_home x ⊤ (λ u. tells) waits))
  touched _ there (passes place h) = absurd (passed rules force p c s w g f is_home x ⊤ (λ u. tells) place h there)

  net_now : (place : Place) → Opens held c (at_once x) place → IsOneOf place now
  net_now place o = net.opens place (IsOpenAfterCommit.opened (opens_too held waits c (at_once x) place (held_waits place) o))

  -- the labels between the first and the promotion
  sifts : (bs : Boxes) (ls : List Label) (cs : Boxes) → Steps k ⊤ bs ls cs → (journal : List Label) → Stand (between k bs) → AreNew k bs → Reached journal (between k bs) → Reached (journal ++ ls) (between k cs)
  sifts _ _ _ (stops bs) journal t n r = subst (λ (ls : List Label). Reached ls (between k bs)) (sym (append-nil journal)) r
  sifts _ _ _ (goes l bs cs ls ds new at a none y) journal t n r =
      let u : Stand (between k cs) = stands_after rules p (between k bs) l (between k cs) t a in
      subst (λ (js : List Label). Reached js (between k ds)) (append_assoc journal (l ∷ []) ls)
      (sifts cs ls ds y (journal ++ l ∷ []) u new
      (commit journal (between k bs) l (between k cs) u r a (λ place there o. touched place there (opened_between k held (between k bs) (outside k bs t n) cs u new (none tt) place o))))

  -- and those behind it
  tells_on : (b : Content) (gs : Goals) (ls : List Label) → Reduces k (drawn rules force p c s w g f is_home x ⊤ (λ u. tells)) b gs ls x.after (with_named x.goals_left (without_goal g f.goals)) → b.name ≡ f.content.name
      → Stand (homed k (drawn rules force p c s w g f is_home x ⊤ (λ u. tells)) b gs)
      → ((place : Place) → IsThere place (at_once x).roots → Opens held (homed k (drawn rules force p c s w g f is_home x ⊤ (λ u. tells)) b gs) (at_once x) place → IsOneOf place now)
      → (journal : List Label) → Reached journal (homed k (drawn rules force p c s w g f is_home x ⊤ (λ u. tells)) b gs) → Reached (journal ++ ls) (at_once x)
  tells_on _ _ _ (rests b gs) its t h journal r = subst (λ (ls : List Label). Reached ls (at_once x)) (sym (append-nil journal)) r
  tells_on _ _ _ (reduces b gs l b1 gs1 ls b2 gs2 y z) its t h journal r =
      let m : ℕ = drawn rules force p c s w g f is_home x ⊤ (λ u. tells) in
      let u : Stand (homed k m b1 gs1) = stands_after rules p (homed k m b gs) l (homed k m b1 gs1) t y.applies in
      let v : _ = body_passage k m b gs l b1 gs1 ls x.after (with_named x.goals_left (without_goal g f.goals)) y z its t x.consistent in
      subst (λ (js : List Label). Reached js (at_once x)) (append_assoc journal (l ∷ []) ls)
      (tells_on b1 gs1 ls z (y.name ∙ its) u (λ place there o. h place there (opens_then f.content.name (homed k m b gs) (homed k m b1 gs1) (at_once x) v held place there o)) (journal ++ l ∷ [])
      (commit journal (homed k m b gs) l (homed k m b1 gs1) u r y.applies (λ place there o. h place there (opens_first f.content.name (homed k m b gs) (homed k m b1 gs1) (at_once x) v held place there o))))

  module _ (journal : List Label) (r : Runs rules p q journal c before waits) where
    begin : Reached journal c
    begin = record {
      places = now ++ before;
      runs = reopened rules p q now journal c before waits r;
      open_now = λ place there i. elim (one_of_either place now before i) [ inl o ↦ o | inr o ↦ net.opens place (IsOpenAfterCommit.stays o (λ e. there)) ];
    }

    forks : Reached (journal ++ fork ∷ []) (between k first)
    forks = commit journal c fork (between k first) (forked_stand rules force p c s w g f is_home x) begin (fork_applies rules force p c s w g f is_home x) (λ place there o. touched place there
        (opened_between k held c (outside_itself k) first (forked_stand rules force p c s w g f is_home x) (forked_new rules force p c s w g f is_home x) (fork_adds rules force p c s w g f is_home x) place o))

    last_reached : Reached ((journal ++ fork ∷ []) ++ between_labels) (between k last)
    last_reached = sifts first between_labels last (steps rules force p c s w g f is_home x ⊤ (λ u. tells)) (journal ++ fork ∷ []) (forked_stand rules force p c s w g f is_home x) (forked_new rules force p c s w g f is_home x) forks

    promotes : Reached (((journal ++ fork ∷ []) ++ between_labels) ++ promote ∷ []) (joined_to k x.last)
    promotes = commit ((journal ++ fork ∷ []) ++ between_labels) (between k last) promote (joined_to k x.last) (joined_stands rules force p c s w g f is_home x ⊤ (λ u. tells)) last_reached (promoted rules force p c s w g f is_home x ⊤ (λ u. tells))
        (λ place there o. net_now place (promote_opens rules force p c s w g f is_home x ⊤ (λ u. tells) held place there o))

    told : Reached ((((journal ++ fork ∷ []) ++ between_labels) ++ promote ∷ []) ++ x.body_labels) (at_once x)
    told = tells_on (joining x.last f.content) (body_goals rules force p c s w g f is_home x ⊤ (λ u. tells)) x.body_labels (told_behind rules force p c s w g f is_home x ⊤ (λ u. tells)) refl (joined_stands rules force p c s w g f is_home x ⊤ (λ u. tells))
        (λ place there o. net_now place (behind_opens rules force p c s w g f is_home x ⊤ (λ u. tells) held place there o)) (((journal ++ fork ∷ []) ++ between_labels) ++ promote ∷ []) promotes

    labels : (((journal ++ fork ∷ []) ++ between_labels) ++ promote ∷ []) ++ x.body_labels ≡ journal ++ labels_at_once x
    labels = append_assoc ((journal ++ fork ∷ []) ++ between_labels) (promote ∷ []) x.body_labels ∙ append_assoc (journal ++ fork ∷ []) between_labels (promote ∷ x.body_labels)
        ∙ append_assoc journal (fork ∷ []) (between_labels ++ promote ∷ x.body_labels) ∙ ap (λ (ls : List Label). journal ++ ls) (sym (all_labels rules force p c s w g f is_home x ⊤ (λ u. tells)))

    pub runs_on : Runs rules p q (journal ++ labels_at_once x) (at_once x) now waits_now
    runs_on = drops_gone rules p q (journal ++ labels_at_once x) (at_once x) told.places held (subst (λ (js : List Label). Runs rules p q js (at_once x) told.places held) labels told.runs) now waits_now told.open_now
        (λ place v there y.
        let z : IsKept waits place v × (IsOneOf place now → ⊥) = beside_of place v now waits y in
        net.keeps place v (record { kept = z.0; unopened = λ o. z.1 (net.opens place (IsOpenAfterCommit.opened o)); there = there }))

pub net_runs : (rules : List Rule) → AreInForce rules → (p : Program) (q : Query) (journal : List Label) (c : Config) (before : List Place) (waits : List Wait) → Runs rules p q journal c before waits
    → (w : ℕ) (g : Name) (f : Found) → home_of g c.roots ≡ Some f → (x : IsAtOnce p c w g f) → TellsNothing x
    → (now : List Place) (waits_now : List Wait) → CommitsNet c (by w Rule.Fork (Place.Goal g) None) (at_once x) before waits now waits_now
    → Runs rules p q (journal ++ labels_at_once x) (at_once x) now waits_now
net_runs rules force p q journal c before waits r w g f is_home x tells now waits_now net =
    runs_on rules force p q c (replay-stands rules p q journal c (runs_replay rules p q journal c before waits r)) w g f is_home x tells before waits now waits_now net journal r
