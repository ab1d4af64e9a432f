-- A box without a candidate of a split that isn't ready doesn't become so while the little that it watches is unchanged.
use Rattle.reading_laws.specs.Unchanged.{Unchanged}
use Rattle.constraint_laws.specs.Touched.{IsAmong}
use Rattle.std.proofs.Common.{◌≡◌, List, [], ◌∷◌, true, false, Some, refl, sym, ◌∙◌, ap, subst, ◌⊎◌, inl, inr}
use Rattle.std.specs.Prelude.{slice_index}
use Rattle.akl_terms.specs.declared.name.Name.{Name}
use Rattle.akl_terms.specs.declared.name.Var.{Var}
use Rattle.akl_terms.specs.declared.name.Place.{Place}
use Rattle.akl_terms.specs.declared.program.Program.{Program}
use Rattle.akl_terms.specs.Decided.{Contradicts}
use Rattle.akl_terms.specs.Equal.{Equations, told, IsConsistent}
use Rattle.akl_terms.proofs.EqualLaws.{IsConsistent-follows}
use Rattle.constraint_laws.proofs.Decided.{consistent_or}
use Rattle.akl_model.specs.declared.item.Item.{Item}
use Rattle.akl_model.specs.declared.label.Rule.{Rule}
use Rattle.akl_model.specs.declared.label.Label.{Label}
use Rattle.akl_model.specs.Config.{Boxes, no_boxes, box, Goals, no_goals, atom, choice, Config, Found, environment, whole, box_at, site_of}
use Rattle.akl_model.specs.Rules.{change_by}
use Rattle.akl_model.specs.Conditions.{HasFailed}
use Rattle.akl_model.specs.Stable.{only, Allows}
use Rattle.akl_model.specs.Derivations.{IsInForce, IsReady}
use Rattle.akl_model.specs.Wakes.{names_around, has_candidate}
use Rattle.akl_model.proofs.NamesKept.{Stand, box-itself, replay-stands, derived-stands}
use Rattle.akl_model.proofs.Options.{some_value}
use Rattle.akl_model.proofs.Scoped.{IsIn-either}
use Rattle.step_laws.specs.Inside.{EachItem, EachItemAmong}
use Rattle.step_laws.specs.Stays.{GoesOn}
use Rattle.step_laws.proofs.Inside.{same_inside}
use Rattle.step_laws.proofs.Same.{IsSame, same}
use Rattle.step_laws.proofs.Steps.{Later, later}
use Rattle.step_laws.proofs.Whereabouts.{found_in}
use Rattle.plan_laws.proofs.ByGoals.{by_goals_law}
use Rattle.reading_laws.specs.Boxes.{BoxesUnchanged, StaysUnbound}
use Rattle.reading_laws.specs.IdleBoxes.{WatchesBox}
use Rattle.reading_laws.proofs.Untouched.{goal_untouched}
use Rattle.reading_laws.proofs.Untouched.{goals_untouched}
use Rattle.step_laws.proofs.Replaced.{box_rule}
use Rattle.plan_laws.proofs.BoxSleeps.{fail_ready}
use Rattle.plan_laws.proofs.IdlePlaces.{split_candidate}
use Rattle.reading_laws.proofs.Boxes.{IsThereStill, there_still, enough_unbound}

-- a box whose set of goals is unchanged has the same constraint, so all inside is the same
mutual
  pub each_same : (rules : List Rule) (p : Program) (c : Config) (ls : List Label) (d : Config) (w : GoesOn rules p c ls d) (bs : Boxes) → EachItem (Unchanged rules p c ls d w.derives) bs → EachItem (IsSame c d) bs
  each_same rules p c ls d w no_boxes u = tt
  each_same rules p c ls d w (box b gs bs) u = (
    by_goals_law rules p c ls d w b.name (goals_untouched rules p c ls d w.derives b.name u.1),
    same rules p c ls d w.derives (Item.Goals b.name) (goals_untouched rules p c ls d w.derives b.name u.1),
    each_same_among rules p c ls d w gs u.2,
    each_same rules p c ls d w bs u.3,
  )

  each_same_among : (rules : List Rule) (p : Program) (c : Config) (ls : List Label) (d : Config) (w : GoesOn rules p c ls d) (gs : Goals) → EachItemAmong (Unchanged rules p c ls d w.derives) gs → EachItemAmong (IsSame c d) gs
  each_same_among rules p c ls d w no_goals u = tt
  each_same_among rules p c ls d w (atom g a gs) u = (same rules p c ls d w.derives (Item.Goal g) (goal_untouched rules p c ls d w.derives g u.0), each_same_among rules p c ls d w gs u.1)
  each_same_among rules p c ls d w (choice g o bs gs) u =
      (same rules p c ls d w.derives (Item.Goal g) (goal_untouched rules p c ls d w.derives g u.0), each_same rules p c ls d w bs u.1, each_same_among rules p c ls d w gs u.2)

pub no_contradiction : (E : Equations) → Contradicts E → IsConsistent E → ⊥
no_contradiction E x h = x.differ.differ (h.heads x.equal x.differ.is_left x.differ.is_right)

module _ (rules : List Rule) (p : Program) (c : Config) (ls : List Label) (d : Config) (w : GoesOn rules p c ls d) (n : Name) (f : Found) (reads : List Var) (e : box_at n c.roots ≡ Some f)
    (u : WatchesBox rules p c ls d w n f reads) where
  s : Stand c
  s = replay-stands rules p w.query w.journal c w.replays

  t : Stand d
  t = derived-stands rules p c d ls s w.derives

  z : Later c d
  z = later rules p c d ls s w.derives

  own : n ≡ f.content.name
  own = box-itself n c.roots f e

  stores : BoxesUnchanged rules p c ls d w.derives f
  stores m i = elim (IsIn-either m (names_around f) (f.content.name ∷ []) i) [
    | inl h ↦ u.around m h
    | inr h ↦ elim h [ inl q ↦ subst (λ (k : Name). Unchanged rules p c ls d w.derives (Item.Store k)) (sym q) u.inside.0 | inr q ↦ absurd q ]
  ]

  alike : StaysUnbound (λ x. IsAmong x reads) d n f
  alike = enough_unbound rules p w.query w.journal c ls d w.replays w.derives n f reads e stores u.enough u.bindings

  there : IsThereStill d n f
  there = there_still rules p w.query w.journal c ls d w.replays w.derives n f e (subst (λ (k : Name). Unchanged rules p c ls d w.derives (Item.Store k)) (sym own) u.inside.0)

  still : IsConsistent (whole f) → IsConsistent (whole there.now)
  still h = subst (λ (k : Found). IsConsistent (whole k)) (some_value (sym alike.is ∙ there.is)) (alike.spares h).consistent

  inside : (f.content ≡ there.now.content) × (f.goals ≡ there.now.goals)
  inside = same_inside c d s t z f there.now (found_in n c.roots f e) (found_in n d.roots there.now there.is) (sym own ∙ box-itself n d.roots there.now there.is) (each_same rules p c ls d w (only f) u.inside)

  module _ (unsplit : has_candidate f.goals ≡ false) (unready : IsReady rules p c (Place.Box n) → ⊥) (r : IsReady rules p d (Place.Box n)) where
    site : r.applies.site ≡ there.now
    site = some_value (sym (subst (λ (y : Place). site_of y d.roots ≡ Some r.applies.site) r.is_place r.applies.is_site) ∙ there.is)

    change : change_by p r.applies.makes.reading r.label.worker (slice_index d.next r.label.worker) r.label.rule (Place.Box n) r.label.alternative there.now ≡ Some r.applies.change
    change = subst (λ (u : Found). change_by p r.applies.makes.reading r.label.worker (slice_index d.next r.label.worker) r.label.rule (Place.Box n) r.label.alternative u ≡ Some r.applies.change) site
        (subst (λ (y : Place). change_by p r.applies.makes.reading r.label.worker (slice_index d.next r.label.worker) r.label.rule y r.label.alternative r.applies.site ≡ Some r.applies.change) r.is_place r.applies.makes.change)

    allowed : Allows p r.applies.makes.reading r.label.rule (Place.Box n) r.label.alternative there.now
    allowed = subst (λ (u : Found). Allows p r.applies.makes.reading r.label.rule (Place.Box n) r.label.alternative u) site
        (subst (λ (y : Place). Allows p r.applies.makes.reading r.label.rule y r.label.alternative r.applies.site) r.is_place r.applies.makes.allowed)

    fails_by : r.label.rule ≡ Rule.Fail → (IsConsistent (whole there.now) → ⊥) ⊎ HasFailed there.now.goals → ⊥
    fails_by q (inr failed) =
        unready (fail_ready rules p c n f (subst (IsInForce rules) q r.applies.in_force) e (inr (subst HasFailed (sym inside.1) failed)) (λ y h. y (subst HasFailed (sym inside.1) failed))).0
    fails_by q (inl clash) = elim (consistent_or (environment f)) [
      | inl ok ↦ unready (fail_ready rules p c n f (subst (IsInForce rules) q r.applies.in_force) e (inl (λ h. clash (still h))) (λ y h. h ok)).0
      | inr x ↦ at (no_contradiction (environment f) x)
    ]
      where
        at : (IsConsistent (environment f) → ⊥) → ⊥
        at broken = r.counts (record {
          fails = q;
          unfailed = λ h.
              unready (fail_ready rules p c n f (subst (IsInForce rules) q r.applies.in_force) e (inr (subst HasFailed (sym inside.1) (subst (λ (k : Found). HasFailed k.goals) site h)))
              (λ y i. y (subst HasFailed (sym inside.1) (subst (λ (k : Found). HasFailed k.goals) site h)))).0;
          inconsistent = λ h. broken (IsConsistent-follows (record { each = λ {s} {t} m. told (there.outer s t m) }) (subst (λ (k : Found). IsConsistent (environment k)) site h));
        })

    by_rule : (q : Rule) → r.label.rule ≡ q → (q ≡ Rule.Fail) ⊎ (q ≡ Rule.Split) → ⊥
    by_rule q x (inl y) = fails_by (x ∙ y) (subst (λ (u : Rule). Allows p r.applies.makes.reading u (Place.Box n) r.label.alternative there.now) (x ∙ y) allowed)
    by_rule q x (inr y) =
        let h : has_candidate there.now.goals ≡ true =
        split_candidate p r.applies.makes.reading n r.label.alternative there.now (subst (λ (u : Rule). Allows p r.applies.makes.reading u (Place.Box n) r.label.alternative there.now) (x ∙ y) allowed) in
        let clash : false ≡ true = sym unsplit ∙ ap has_candidate inside.1 ∙ h in
        cc

    pub idle_box : ⊥
    idle_box = by_rule r.label.rule refl (box_rule p r.applies.makes.reading r.label.worker (slice_index d.next r.label.worker) r.label.rule n r.label.alternative there.now r.applies.change change)
