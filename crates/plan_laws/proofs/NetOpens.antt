-- Of the places that are still there the labels of a call at once leave open those that its net change leaves open.
use Rattle.std.proofs.Common.{◌≡◌, ℕ, List, ◌∷◌, ◌++◌, Some, None, refl, sym, ◌∙◌, subst, ◌⊎◌, inl, inr}
use Rattle.std.specs.Prelude.{⊤}
use Rattle.akl_terms.specs.declared.name.Name.{Name}
use Rattle.akl_terms.specs.declared.name.Var.{Var}
use Rattle.akl_terms.specs.declared.name.Place.{Place}
use Rattle.akl_terms.specs.declared.program.Program.{Program}
use Rattle.akl_terms.specs.declared.program.Query.{Query}
use Rattle.akl_model.specs.declared.label.Rule.{Rule}
use Rattle.akl_model.specs.declared.label.Label.{Label}
use Rattle.akl_model.specs.Config.{Content, Boxes, box, no_boxes, Goals, no_goals, Config, without_goal, Found, home_of}
use Rattle.akl_model.specs.Rules.{joining}
use Rattle.akl_model.specs.Derivations.{Applies, Derives, Replays}
use Rattle.akl_model.specs.Wakes.{IsOneOf, IsThere, Wait, IsKept, Opens, IsOpenAfterCommit}
use Rattle.akl_model.proofs.NamesKept.{Stand, replay-stands, stands_after}
use Rattle.akl_model.proofs.Results.{Applies-one}
use Rattle.step_laws.proofs.There.{there_site}
use Rattle.step_laws.proofs.Decide.{one_of_or}
use Rattle.plan_laws.specs.Kept.{AreLeftByCommit}
use Rattle.plan_laws.specs.Waits.{AreWaits}
use Rattle.plan_laws.specs.AtOnce.{by, with_named, IsAtOnce, labels_at_once, at_once, AreInForce}
use Rattle.plan_laws.specs.Wakes.{TellsNothing, AreOpenAfter, AreOpenAlong}
use Rattle.plan_laws.proofs.CallAlternatives.{Calling, between, AreNew, IsPassing, its_goal, Steps, stops, goes}
use Rattle.plan_laws.proofs.BodySteps.{homed, Reduces, rests, reduces}
use Rattle.plan_laws.proofs.CallPassage.{body_passage, body_goals, drawn, joined_stands, told_behind, end_further, box_gone, goal_gone, passed, passage, box_opens, promote_opens, behind_opens}
use Rattle.plan_laws.proofs.Calls.{calling, forked, fork_applies, fork_adds, forked_new, forked_stand, middle, steps, promoted, all_labels}
use Rattle.plan_laws.proofs.Further.{IsFurther, there_further, further_along}
use Rattle.plan_laws.proofs.NetKept.{there_between}
use Rattle.plan_laws.proofs.OpensAlike.{last_opens, net_opens}
use Rattle.plan_laws.proofs.CallsOutside.{IsTouched, its_box, passes, outside_itself, outside, opened_between}
use Rattle.plan_laws.proofs.Passages.{Passage, opens_none, opens_split, opens_first, opens_then}
use Rattle.plan_laws.proofs.Sifted.{joined_to}
use Rattle.plan_laws.proofs.CallWaits.{opens_or, opens_too}

module _ (rules : List Rule) (force : AreInForce rules) (p : Program) (c : Config) (s : Stand c) (w : ℕ) (g : Name) (f : Found) (is_home : home_of g c.roots ≡ Some f) (x : IsAtOnce p c w g f) (tells : TellsNothing x)
    (before : List Place) (waits : List Wait) (h : AreWaits c before waits) (now : List Place) (waits_now : List Wait) where
  abbrev k : Calling
  k = calling rules force p c s w g f is_home x

  abbrev first : Boxes
  first = forked rules force p c s w g f is_home x

  abbrev last : Boxes
  last = box x.last no_goals no_boxes

  abbrev fork : Label
  fork = by w Rule.Fork (Place.Goal g) None

  abbrev promote : Label
  promote = by w Rule.Promote (Place.Goal g) (Some x.last.name)

  abbrev others : List Label
  others = middle rules force p c s w g f is_home x ⊤ (λ u. tells)

  abbrev m : ℕ
  m = drawn rules force p c s w g f is_home x ⊤ (λ u. tells)

  abbrev IsEnd : Place → Type 0
  IsEnd place = IsThere place (at_once x).roots

  -- the open places and kept waits at a configuration between, by those before the call and what is there at the end
  record IsAlong (n : Config) (places : List Place) (kept : List Wait) : Type 0 where
    pub opened : (place : Place) → IsEnd place → IsOneOf place places → IsOneOf place before ⊎ Opens waits c (at_once x) place
    pub stays : (place : Place) → IsEnd place → IsOneOf place before → IsOneOf place places
    pub was_kept : (place : Place) (v : Var) → IsKept kept place v → IsKept waits place v
    pub is_kept : (place : Place) (v : Var) → IsEnd place → IsKept waits place v → IsKept kept place v ⊎ IsOneOf place places
    -- what the net change opens is open, or opened from here on
    pub to_open : (place : Place) → IsEnd place → Opens waits c (at_once x) place → IsOneOf place places ⊎ Opens waits n (at_once x) place

  -- over a label whose place isn't there at the end, and which opens nothing else than the net change
  along_step : (n : Config) (l : Label) (o : Config) → (IsEnd l.place → ⊥) → ((place : Place) → IsEnd place → Opens waits n o place → Opens waits c (at_once x) place)
      → ((place : Place) → IsEnd place → IsThere place c.roots → IsThere place o.roots) → ((place : Place) → IsEnd place → Opens waits n (at_once x) place → Opens waits n o place ⊎ Opens waits o (at_once x) place)
      → (places : List Place) (kept : List Wait) → IsAlong n places kept → (next : List Place) (kept_next : List Wait) → AreOpenAfter places kept l n o next → AreLeftByCommit kept n o kept_next → IsAlong o next kept_next
  along_step n l o lost net there splits places kept st next kept_next is_open left = record {
    opened = λ place t i. elim (is_open.each place i) [
      | IsOpenAfterCommit.stays y z ↦ st.opened place t y
      | IsOpenAfterCommit.opened y ↦ inr (net place t (opens_too kept waits n o place (λ v u. st.was_kept place v u) y))
    ];
    stays = λ place t i. goes_on place t (st.stays place t i);
    was_kept = λ place v y. st.was_kept place v (left.each place v y).kept;
    is_kept = λ place v t y. elim (st.is_kept place v t y) [ inr u ↦ inr (goes_on place t u) | inl u ↦ keeps place v t y u ];
    to_open = λ place t y. elim (st.to_open place t y) [
      | inl u ↦ inl (goes_on place t u)
      | inr u ↦ elim (splits place t u) [ inl z ↦ inl (opens_now place t z) | inr z ↦ inr z ]
    ];
  }
    where
      -- a place that is there at the end isn't the label's
      goes_on : (place : Place) → IsEnd place → IsOneOf place places → IsOneOf place next
      goes_on place t u = is_open.all place (IsOpenAfterCommit.stays u (λ e. absurd (lost (subst IsEnd e t))))

      opens_now : (place : Place) → IsEnd place → Opens waits n o place → IsOneOf place next
      opens_now place t y = elim (opens_or (IsOneOf place places) waits kept n o place (λ v u. st.is_kept place v t u) y) [ inl u ↦ is_open.all place (IsOpenAfterCommit.opened u) | inr u ↦ goes_on place t u ]

      keeps : (place : Place) (v : Var) → IsEnd place → IsKept waits place v → IsKept kept place v → IsKept kept_next place v ⊎ IsOneOf place next
      keeps place v t y u = elim (one_of_or place next) [
        | inl z ↦ inr z
        | inr z ↦ inl (left.all place v (record { kept = u; unopened = λ u1. z (is_open.all place (IsOpenAfterCommit.opened u1)); there = there place t (h.there place v y) }))
      ]

  abbrev Same : Type 0
  Same = (place : Place) → IsEnd place → (IsOneOf place now → IsOpenAfterCommit before waits fork c (at_once x) place) × (IsOpenAfterCommit before waits fork c (at_once x) place → IsOneOf place now)

  same_at_end : IsAlong (at_once x) now waits_now → Same
  same_at_end st place t = (
    λ i. elim (st.opened place t i) [ inl b ↦ IsOpenAfterCommit.stays b (λ e. t) | inr o ↦ IsOpenAfterCommit.opened o ],
    λ i. elim i [
      | IsOpenAfterCommit.stays y z ↦ st.stays place t y
      | IsOpenAfterCommit.opened y ↦ elim (st.to_open place t y) [ inl u ↦ u | inr u ↦ absurd (opens_none waits (at_once x) place u) ]
    ],
  )

  lost_places : (place : Place) → IsPassing k place → IsEnd place → ⊥
  lost_places = passed rules force p c s w g f is_home x ⊤ (λ u. tells)

  touched : (place : Place) → IsEnd place → IsTouched k place → Opens waits c (at_once x) place
  touched _ t its_box = box_opens rules force p c s w g f is_home x ⊤ (λ u. tells) waits
  touched _ t (passes place i) = absurd (lost_places place i t)

  there_now : (bs : Boxes) → Stand (between k bs) → AreNew k bs → (place : Place) → IsEnd place → IsThere place c.roots → IsThere place (between k bs).roots
  there_now bs t new place e there = there_between k bs t new place there (λ i. lost_places place i e)

  -- the labels of the body
  body_along : (b : Content) (gs : Goals) (ls : List Label) → Reduces k m b gs ls x.after (with_named x.goals_left (without_goal g f.goals)) → b.name ≡ f.content.name → (t : Stand (homed k m b gs))
      → ((place : Place) → IsEnd place → Opens waits (homed k m b gs) (at_once x) place → Opens waits c (at_once x) place) → (n : Config) → n ≡ homed k m b gs → (d : Derives rules p n ls (at_once x)) (places : List Place) (kept : List Wait)
      → IsAlong (homed k m b gs) places kept → AreOpenAlong rules p n ls (at_once x) d places kept now waits_now → Same
  body_along _ _ _ (rests b gs) its t net n q d places kept st y = same_at_end (subst (λ (ws : List Wait). IsAlong (at_once x) now ws) y.1 (subst (λ (qs : List Place). IsAlong (at_once x) qs kept) y.0 st))
  body_along _ _ _ (reduces b gs l b1 gs1 ls b2 gs2 r z) its t net n q d places kept st y =
      let u : Stand (homed k m b1 gs1) = stands_after rules p (homed k m b gs) l (homed k m b1 gs1) t r.applies in
      let v : Passage f.content.name (homed k m b gs) (homed k m b1 gs1) (at_once x) = body_passage k m b gs l b1 gs1 ls x.after (with_named x.goals_left (without_goal g f.goals)) r z its t x.consistent in
      let w1 : IsFurther f.content.name (homed k m b1 gs1) (at_once x) = further_along k m b1 gs1 ls x.after (with_named x.goals_left (without_goal g f.goals)) z (r.name ∙ its) u in
      let e : d.0 ≡ homed k m b1 gs1 = Applies-one (subst (λ (o : Config). Applies rules p o l d.0) q d.1) r.applies in
      body_along b1 gs1 ls z (r.name ∙ its) u (λ place i o. net place i (opens_then f.content.name (homed k m b gs) (homed k m b1 gs1) (at_once x) v waits place i o)) d.0 e d.2 y.0 y.1
      (along_step (homed k m b gs) l (homed k m b1 gs1) (reduced_lost (homed k m b1 gs1) w1 l r.goal r.place r.gone)
      (λ place i o. net place i (opens_first f.content.name (homed k m b gs) (homed k m b1 gs1) (at_once x) v waits place i o)) (λ place i there. there_further f.content.name (homed k m b1 gs1) (at_once x) w1 place i)
      (λ place i o. opens_split f.content.name (homed k m b gs) (homed k m b1 gs1) (at_once x) v waits place i o) places kept st y.0 y.1
      (subst (λ (o : Config). AreOpenAfter places kept l (homed k m b gs) o y.0) e (subst (λ (o : Config). AreOpenAfter places kept l o d.0 y.0) q y.2))
      (subst (λ (o : Config). AreLeftByCommit kept (homed k m b gs) o y.1) e (subst (λ (o : Config). AreLeftByCommit kept o d.0 y.1) q y.3))) y.4
    where
      reduced_lost : (n1 : Config) → IsFurther f.content.name n1 (at_once x) → (l : Label) (i : Name) → l.place ≡ Place.Goal i → home_of i n1.roots ≡ None → IsEnd l.place → ⊥
      reduced_lost n1 fu l i place gone t =
          let e : (e : Found) × (home_of i n1.roots ≡ Some e) = there_site (Place.Goal i) n1.roots (subst (λ (v : Place). IsThere v n1.roots) place (there_further f.content.name n1 (at_once x) fu l.place t)) in
          let a : home_of i n1.roots ≡ Some e.0 = e.1 in
          cc

  -- the promotion
  promote_along : (n : Config) → n ≡ between k last → (d : Derives rules p n (promote ∷ x.body_labels) (at_once x)) (places : List Place) (kept : List Wait) → IsAlong (between k last) places kept
      → AreOpenAlong rules p n (promote ∷ x.body_labels) (at_once x) d places kept now waits_now → Same
  promote_along n q d places kept st y =
      let e : d.0 ≡ joined_to k x.last = Applies-one (subst (λ (o : Config). Applies rules p o promote d.0) q d.1) (promoted rules force p c s w g f is_home x ⊤ (λ u. tells)) in
      body_along (joining x.last f.content) (body_goals rules force p c s w g f is_home x ⊤ (λ u. tells)) x.body_labels (told_behind rules force p c s w g f is_home x ⊤ (λ u. tells)) refl (joined_stands rules force p c s w g f is_home x ⊤ (λ u. tells))
      (behind_opens rules force p c s w g f is_home x ⊤ (λ u. tells) waits) d.0 e d.2 y.0 y.1
      (along_step (between k last) promote (joined_to k x.last) (lost_places (Place.Goal g) its_goal) (promote_opens rules force p c s w g f is_home x ⊤ (λ u. tells) waits)
      (λ place i there. there_further f.content.name (joined_to k x.last) (at_once x) (end_further rules force p c s w g f is_home x ⊤ (λ u. tells)) place i)
      (opens_split f.content.name (between k last) (joined_to k x.last) (at_once x) (passage rules force p c s w g f is_home x ⊤ (λ u. tells)) waits) places kept st y.0 y.1
      (subst (λ (o : Config). AreOpenAfter places kept promote (between k last) o y.0) e (subst (λ (o : Config). AreOpenAfter places kept promote o d.0 y.0) q y.2))
      (subst (λ (o : Config). AreLeftByCommit kept (between k last) o y.1) e (subst (λ (o : Config). AreLeftByCommit kept o d.0 y.1) q y.3))) y.4

  -- what is opened from one configuration between is opened from another
  from_other : (bs cs : Boxes) (t : Stand (between k bs)) (n : AreNew k bs) (u : Stand (between k cs)) (o : AreNew k cs) (place : Place) → Opens waits (between k bs) (at_once x) place → Opens waits (between k cs) (at_once x) place
  from_other bs cs t n u o place y =
      last_opens k cs u o (at_once x) (box_gone rules force p c s w g f is_home x ⊤ (λ u. tells)) (goal_gone rules force p c s w g f is_home x ⊤ (λ u. tells)) waits place
      (net_opens k bs t n (at_once x) (box_gone rules force p c s w g f is_home x ⊤ (λ u. tells)) (goal_gone rules force p c s w g f is_home x ⊤ (λ u. tells)) waits place y)

  along_steps : (bs : Boxes) (ls : List Label) (cs : Boxes) → Steps k ⊤ bs ls cs → Stand (between k bs) → AreNew k bs → (n : Config) → n ≡ between k bs → (ks : List Label) (d : Derives rules p n (ls ++ ks) (at_once x))
      → (places : List Place) (kept : List Wait) → IsAlong (between k bs) places kept → AreOpenAlong rules p n (ls ++ ks) (at_once x) d places kept now waits_now
      → ((n1 : Config) → n1 ≡ between k cs → (d1 : Derives rules p n1 ks (at_once x)) (places1 : List Place) (kept1 : List Wait) → IsAlong (between k cs) places1 kept1 → AreOpenAlong rules p n1 ks (at_once x) d1 places1 kept1 now waits_now → Same) → Same
  along_steps _ _ _ (stops bs) t new n q ks d places kept st y end = end n q d places kept st y
  along_steps _ _ _ (goes l bs cs ls ds next at a keep z) t new n q ks d places kept st y end =
      let u : Stand (between k cs) = stands_after rules p (between k bs) l (between k cs) t a in
      let e : d.0 ≡ between k cs = Applies-one (subst (λ (o : Config). Applies rules p o l d.0) q d.1) a in
      along_steps cs ls ds z u next d.0 e ks d.2 y.0 y.1
      (along_step (between k bs) l (between k cs) (lost_places l.place at) (λ place i o. touched place i (opened_between k waits (between k bs) (outside k bs t new) cs u next (keep tt) place o)) (there_now cs u next)
      (λ place i o. inr (from_other bs cs t new u next place o)) places kept st y.0 y.1
      (subst (λ (o : Config). AreOpenAfter places kept l (between k bs) o y.0) e (subst (λ (o : Config). AreOpenAfter places kept l o d.0 y.0) q y.2))
      (subst (λ (o : Config). AreLeftByCommit kept (between k bs) o y.1) e (subst (λ (o : Config). AreLeftByCommit kept o d.0 y.1) q y.3))) y.4 end

  first_stands : Stand (between k first)
  first_stands = forked_stand rules force p c s w g f is_home x

  first_names : AreNew k first
  first_names = forked_new rules force p c s w g f is_home x

  opens_same : (d : Derives rules p c (fork ∷ (others ++ promote ∷ x.body_labels)) (at_once x)) → AreOpenAlong rules p c (fork ∷ (others ++ promote ∷ x.body_labels)) (at_once x) d before waits now waits_now → Same
  opens_same d y =
      let e : d.0 ≡ between k first = Applies-one d.1 (fork_applies rules force p c s w g f is_home x) in
      along_steps first others last (steps rules force p c s w g f is_home x ⊤ (λ u. tells)) first_stands first_names d.0 e (promote ∷ x.body_labels) d.2 y.0 y.1
      (along_step c fork (between k first) (lost_places (Place.Goal g) its_goal)
      (λ place i o. touched place i (opened_between k waits c (outside_itself k) first first_stands first_names (fork_adds rules force p c s w g f is_home x) place o)) (there_now first first_stands first_names)
      (λ place i o. inr (last_opens k first first_stands first_names (at_once x) (box_gone rules force p c s w g f is_home x ⊤ (λ u. tells)) (goal_gone rules force p c s w g f is_home x ⊤ (λ u. tells)) waits place o)) before waits
      (record { opened = λ place t i. inl i; stays = λ place t i. i; was_kept = λ place v i. i; is_kept = λ place v t i. inl i; to_open = λ place t i. inr i }) y.0 y.1
      (subst (λ (v : Config). AreOpenAfter before waits fork c v y.0) e y.2) (subst (λ (v : Config). AreLeftByCommit waits c v y.1) e y.3)) y.4 promote_along

  pub opens_of_labels : (d : Derives rules p c (labels_at_once x) (at_once x)) → AreOpenAlong rules p c (labels_at_once x) (at_once x) d before waits now waits_now → Same
  opens_of_labels = subst (λ (ls : List Label). (d : Derives rules p c ls (at_once x)) → AreOpenAlong rules p c ls (at_once x) d before waits now waits_now → Same)
      (sym (all_labels rules force p c s w g f is_home x ⊤ (λ u. tells))) opens_same

pub net_opens_law : (rules : List Rule) → AreInForce rules → (p : Program) (q : Query) (journal : List Label) (c : Config) → Replays rules p q journal c → (w : ℕ) (g : Name) (f : Found) → home_of g c.roots ≡ Some f
    → (x : IsAtOnce p c w g f) → TellsNothing x → (d : Derives rules p c (labels_at_once x) (at_once x)) → (before : List Place) (waits : List Wait) → AreWaits c before waits
    → (now : List Place) (waits_now : List Wait) → AreOpenAlong rules p c (labels_at_once x) (at_once x) d before waits now waits_now
    → (place : Place) → IsThere place (at_once x).roots
    → (IsOneOf place now → IsOpenAfterCommit before waits (by w Rule.Fork (Place.Goal g) None) c (at_once x) place) × (IsOpenAfterCommit before waits (by w Rule.Fork (Place.Goal g) None) c (at_once x) place → IsOneOf place now)
net_opens_law rules force p q journal c r w g f is_home x tells d before waits h now waits_now y = opens_of_labels rules force p c (replay-stands rules p q journal c r) w g f is_home x tells before waits h now waits_now d y
