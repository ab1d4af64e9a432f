-- The views of all places in a box and inside it, one by one.
use Rattle.std.proofs.Common.{ℕ, List, [], ◌∷◌, refl, sym, subst}
use Rattle.std.specs.List.{AllByRecursion}
use Rattle.akl_terms.specs.declared.name.Var.{Var}
use Rattle.akl_terms.specs.declared.program.Program.{Program}
use Rattle.local_store.specs.Stored.{Stored, nothing}
use Rattle.box_tree.specs.declared.inside.Inside.{Inside}
use Rattle.box_tree.specs.Views.{ViewValue}
use Rattle.box_tree.specs.Insides.{IsViewInside}
use Rattle.stable_test.specs.Frames.{with_all_frames}
use Rattle.stable_test.specs.Reaching.{IsConsistentDown, AreReachedAt, IsTestable}
use Rattle.stable_test.specs.Seen.{IsSeenInside}
use Rattle.stable_test.specs.Inner.{IsInnerView, ListsTouched}
use Rattle.stable_test.proofs.StableViews.{testable, lists_touched, lists_none}

-- each of them is seen so
pub inner_views : (p : Program) (depth : ℕ) (i : Inside) → IsSeenInside p depth i → AllByRecursion (IsInnerView p depth (with_all_frames nothing i.boxes.items)) i.views.items
inner_views p depth i s = each i.views.items s.inside.views
  where
    each : (vs : List ViewValue) → AllByRecursion (IsViewInside s.table s.journal s.name s.worker) vs → AllByRecursion (IsInnerView p depth (with_all_frames nothing i.boxes.items)) vs
    each [] a = tt
    each (v ∷ vs) a = (record { inside = i; seen = s; all_frames = refl; view = a.0 }, each vs a.1)

module _ (p : Program) (depth : ℕ) (frames : Stored) (v : ViewValue) (s : IsInnerView p depth frames v) where
  pub inner_testable : IsTestable p depth frames v
  inner_testable = subst (λ (k : Stored). IsTestable p depth k v) (sym s.all_frames) (testable p depth s.inside s.seen v s.view)

  -- what the stores reach is what is touched
  pub inner_touched : (list : List Var) → IsConsistentDown p v × AreReachedAt p depth frames v list → ListsTouched p depth frames v s list
  inner_touched list r = lists_touched p depth s.inside s.seen v s.view list r.0 (subst (λ (k : Stored). AreReachedAt p depth k v list) s.all_frames r.1)

  pub inner_none : (IsConsistentDown p v → ⊥) → ListsTouched p depth frames v s []
  inner_none n = lists_none p depth s.inside s.seen v s.view n
