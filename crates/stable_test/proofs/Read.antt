-- What the tests of a view and of all views come to.
use Rattle.std.proofs.Common.{◌≡◌, ℕ, List, [], ◌∷◌, Bool, true, false, Option, Some, None, refl, sym, ◌∙◌, subst}
use Rattle.std.specs.Prelude.{is_some, not, IsTrue, ◌↔◌}
use Rattle.std.specs.List.{AllByRecursion}
use Rattle.akl_terms.specs.declared.program.Program.{Program}
use Rattle.akl_model.specs.declared.label.Rule.{Rule}
use Rattle.akl_model.specs.declared.label.Label.{Label}
use Rattle.akl_model.specs.Config.{Config}
use Rattle.akl_model.specs.Stable.{IsStable}
use Rattle.akl_model.specs.Derivations.{Applies}
use Rattle.local_store.specs.Stored.{Stored, nothing}
use Rattle.table_laws.specs.Stamped.{IsTableOf}
use Rattle.box_tree.specs.declared.inside.Inside.{Inside}
use Rattle.box_tree.specs.Tables.{TableValue, all_rules, table_of}
use Rattle.box_tree.specs.Views.{ViewValue, run_of}
use Rattle.box_tree.specs.Plans.{PlanValue}
use Rattle.guard_plan.specs.Planned.{IsPlanOf, HasNoRule, IsPlannedBy}
use Rattle.stable_test.specs.Frames.{with_all_frames}
use Rattle.stable_test.specs.Reaching.{ReachesNoneAt}
use Rattle.stable_test.specs.Seen.{IsSeenInside, IsStill}
use Rattle.stable_test.proofs.FirstApplies.{FirstApplies, first_applies}
use Rattle.stable_test.proofs.StableViews.{every, all_still, all_stable}

-- where a rule other than Split is planned, one applies
pub planned : (v : ViewValue) (q : PlanValue) → IsPlanOf v q → (q.label.rule ≡ Rule.Split → ⊥) → HasNoRule v → ⊥
planned v q w n h = h.none there.0 q.label there.1 there.2 w.place n
  where
    first : FirstApplies q
    first = first_applies q w.right

    there : (k : IsTableOf all_rules (run_of v.table v.journal) (table_of v.table)) × (d : Config) × Applies all_rules v.table.program k.config q.label d
    there = subst (λ (t : TableValue). (k : IsTableOf all_rules (run_of t v.journal) (table_of t)) × (d : Config) × Applies all_rules t.program k.config q.label d) w.table
        (subst (λ (j : List Label). (k : IsTableOf all_rules (run_of q.table j) (table_of q.table)) × (d : Config) × Applies all_rules q.table.program k.config q.label d) w.journal
        (first.table, first.result, first.applies))

-- no plan comes exactly where none applies
pub none_planned : (v : ViewValue) (o : Option PlanValue) → IsPlannedBy v o → (none : Bool) → is_some o ≡ not none → IsTrue none ↔ HasNoRule v
none_planned v None w true e = (λ t. w, λ h. refl)
none_planned v None w false e = cc
none_planned v (Some q) w true e = cc
none_planned v (Some q) w false e = (λ t. cc, λ h. absurd (planned v q w.0 w.1 h))

-- where no rule applies at any place, all are still exactly where none reaches anything
pub still_by : (p : Program) (depth : ℕ) (frames : Stored) (vs : List ViewValue) → AllByRecursion HasNoRule vs → (none : Bool) → IsTrue none ↔ AllByRecursion (ReachesNoneAt p depth frames) vs
    → IsTrue none ↔ AllByRecursion (IsStill p depth frames) vs
still_by p depth frames vs h none k = (λ t. both vs h (k.0 t), λ s. k.1 (every (IsStill p depth frames) (ReachesNoneAt p depth frames) (λ v w. w.1) vs s))
  where
    both : (vs : List ViewValue) → AllByRecursion HasNoRule vs → AllByRecursion (ReachesNoneAt p depth frames) vs → AllByRecursion (IsStill p depth frames) vs
    both [] h k = tt
    both (v ∷ vs) h k = ((h.0, k.0), both vs h.1 k.1)

-- where all places are still, the box is stable, and no other box is
pub decided : (p : Program) (depth : ℕ) (i : Inside) (s : IsSeenInside p depth i) → (still : Bool) → IsTrue still ↔ AllByRecursion (IsStill p depth (with_all_frames nothing i.boxes.items)) i.views.items
    → IsTrue still ↔ IsStable p s.site
decided p depth i s still e = (λ t. all_stable p depth i s (e.0 t), λ stable. e.1 (all_still p depth i s stable))

-- a box isn't stable where a rule applies at some place
pub not_stable : (p : Program) (depth : ℕ) (i : Inside) (s : IsSeenInside p depth i) (none : Bool) → none ≡ false → IsTrue none ↔ AllByRecursion HasNoRule i.views.items → IsTrue false ↔ IsStable p s.site
not_stable p depth i s none f e = (
  λ t. cc,
  λ stable. sym f ∙ e.1 (every (IsStill p depth (with_all_frames nothing i.boxes.items)) HasNoRule (λ v w. w.0) i.views.items (all_still p depth i s stable)),
)
