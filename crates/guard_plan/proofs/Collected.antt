-- Plans for a choice that collects at the place of a view.
use Rattle.std.proofs.Common.{◌≡◌, ◌≤◌, ◌<◌, ◌^◌, List, [], length, None}
use Rattle.std.specs.List.{AllByRecursion}
use Rattle.akl_terms.specs.declared.name.Name.{Name}
use Rattle.akl_terms.specs.declared.name.Var.{Var}
use Rattle.akl_terms.specs.declared.name.Place.{Place}
use Rattle.akl_terms.specs.declared.term.Term.{Term}
use Rattle.akl_terms.specs.declared.term.Equation.{Equation}
use Rattle.akl_terms.specs.Template.{tree}
use Rattle.akl_model.specs.declared.item.Item.{Item}
use Rattle.akl_model.specs.declared.label.Rule.{Rule}
use Rattle.local_store.specs.declared.part.Part.{Part}
use Rattle.local_store.specs.Parts.{ToldStore, with_part}
use Rattle.local_store.specs.Chained.{innermost}
use Rattle.class_members.specs.Members.{AreMembers}
use Rattle.table_laws.specs.Added.{added_of}
use Rattle.table_laws.specs.PartSteps.{joins_part}
use Rattle.box_tree.specs.declared.entries.HeldOp.{HeldOp}
use Rattle.box_tree.specs.declared.step.Step.{Step}
use Rattle.box_tree.specs.declared.view.Sight.{Sight}
use Rattle.box_tree.specs.Views.{ViewValue, IsViewOf}
use Rattle.box_tree.specs.Plans.{part_step, IsRightLabel}
use Rattle.guard_plan.specs.ReadAt.{IsReadAt}
use Rattle.guard_plan.specs.Guards.{IsTestable, AreAllSolved, AreQuietOver}
use Rattle.guard_plan.specs.Collecting.{AreCollected, frames_of, IsList, IsJoined}
use Rattle.guard_plan.specs.Planned.{HasNoRule}
use Rattle.guard_plan.proofs.Placed.{ArePlaced, all_testable}
use Rattle.guard_plan.proofs.Chosen.{shown, are_placed}
use Rattle.guard_plan.proofs.CollectNone.{unsolved_uncollected, noisy_none, many_none}
use Rattle.guard_plan.proofs.CollectRight.{collect_right}

module _ (v : ViewValue) (i : IsViewOf v) (g : Name) (t : Term) (p : v.place ≡ Place.Goal g) (s : v.sight ≡ Sight.Choice (HeldOp.Collect t)) where
  seen : ArePlaced v i (shown v i g (HeldOp.Collect t) p s).0 v.alternatives
  seen = are_placed v i g (HeldOp.Collect t) p s

  pub collect_testable : AllByRecursion (IsTestable v.table.program.templates.nodes v.stores) v.alternatives
  collect_testable = all_testable v i (shown v i g (HeldOp.Collect t) p s).0 v.alternatives seen

  -- where no rule applies

  pub collect_unsolved : (AreAllSolved v.alternatives → ⊥) → HasNoRule v
  collect_unsolved none = unsolved_uncollected v i g (tree v.table.program.templates.nodes t) (shown v i g (HeldOp.Collect t) p s).0 p (shown v i g (HeldOp.Collect t) p s).1 seen (λ a c. none a)

  pub collect_uncollected : (AreCollected v.alternatives → ⊥) → HasNoRule v
  collect_uncollected none = unsolved_uncollected v i g (tree v.table.program.templates.nodes t) (shown v i g (HeldOp.Collect t) p s).0 p (shown v i g (HeldOp.Collect t) p s).1 seen (λ a c. none c)

  pub collect_noisy : (AreQuietOver v.table.program.templates.nodes v.stores v.alternatives → ⊥) → HasNoRule v
  collect_noisy none = noisy_none v i g (tree v.table.program.templates.nodes t) (shown v i g (HeldOp.Collect t) p s).0 p (shown v i g (HeldOp.Collect t) p s).1 seen none

  pub collect_many : 2 ^ 32 ≤ length v.alternatives → HasNoRule v
  collect_many many = many_none v i g (tree v.table.program.templates.nodes t) (shown v i g (HeldOp.Collect t) p s).0 p (shown v i g (HeldOp.Collect t) p s).1 seen many

  -- and where Collect does

  pub collect_planned : AreAllSolved v.alternatives → AreQuietOver v.table.program.templates.nodes v.stores v.alternatives → length v.alternatives < 2 ^ 32 → (es : List Equation)
      → IsList v.table.program (record { worker = v.worker; number = v.next }) t v.alternatives es → (answer : ToldStore)
      → IsJoined v.table.program.templates.nodes v.stores v.known v.alternatives (frames_of v.worker v.next v.alternatives) es answer
      → (part : Part) → with_part (innermost v.stores) part ≡ answer.store → part.frames.items ≡ frames_of v.worker v.next v.alternatives
      → (binds : List Var) → AreMembers v.table.program.templates.nodes v.stores answer.bound binds → (reads : List Item) → IsReadAt v g binds reads → (step : Step)
      → part_step v.table.program.templates.nodes step ≡ joins_part (added_of part) answer.solved []
      → IsRightLabel (record { table = v.table; journal = v.journal; label = record { rule = Rule.Collect; place = v.place; alternative = None; worker = v.worker }; more = []; reads = reads; names = length v.alternatives; step = step; binds = binds })
  collect_planned solved quiet few es l answer j part is adds binds m reads read step e =
      collect_right v i g t (shown v i g (HeldOp.Collect t) p s).0 p (shown v i g (HeldOp.Collect t) p s).1 seen solved quiet few es l answer j part is adds binds m reads read step e
