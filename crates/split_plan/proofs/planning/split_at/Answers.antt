use Rattle.std.proofs.Common.{◌-◌, ◌<◌, List, length, take, ◌∙◌, ap, subst, arith, rules}
use Rattle.std.specs.Prelude.{◌^◌}
use Rattle.akl_terms.specs.declared.name.Name.{Name}
use Rattle.akl_terms.specs.declared.program.Program.{Program}
use Rattle.akl_model.specs.declared.item.Item.{Item}
use Rattle.box_tree.specs.Plans.{IsRead, IsRight}
use Rattle.guard_plan.specs.ReadAt.{PlanMayRead}
use Rattle.split_plan.proofs.MayRead.{split_by, split_may}
use Rattle.split_plan.proofs.SeenSplit.{around_is}
use Rattle.split_plan.proofs.SplitRight.{split_planned}
use Rattle.split_plan.proofs.planning.split_at.Goals as goal

pub copies_of-requires-clause-templates : goal.copies_of-requires-clause-templates
copies_of-requires-clause-templates c = ap (λ (p : Program). p.templates.nodes) c.requires.program

pub new-requires-2-clause-right : goal.new-requires-2-clause-right
new-requires-2-clause-right c =
    let d = c.saturating_sub-depth.ensures ∙ ap (λ (ns : List Name). length ns - 1) c.path-path.ensures in
    let few : c.in_ok-copy.field-0.names < 2 ^ 32 = omega (arith, c.if-names-gt-MOST.false, c.in_ok-copy.names-is) in
    let reads = c.in_ok-reads.ensures in
    rw (c.requires.label, c.new.ensures.items, reads.are_items)
    (split_planned c.args.view.now c.requires.stable.0 c.args.alternative c.requires.candidate c.args.boxes.now c.requires.boxes c.requires.stable.1 c.in_ok-copy.field-0 c.in_ok-copy.ensures few
    (take (length c.args.view.now.path - 1) c.args.view.now.path) (around_is c.args.view.now c.requires.stable.0) reads.outer (rw (d, c.path-path.ensures) at reads.are_outer))

pub returns-clause-split : goal.returns-clause-split
returns-clause-split c =
    let v = c.args.view.now in
    let d = c.saturating_sub-depth.ensures ∙ ap (λ (ns : List Name). length ns - 1) c.path-path.ensures in
    let reads = c.in_ok-reads.ensures in
    let right : IsRight c.in_ok-plan.plan = search rules in
    let may : (j : Item) → IsRead c.in_ok-reads.reads.items j → PlanMayRead v c.new.result.items j =
    λ j r. split_may v c.requires.stable.0 c.args.boxes.now c.requires.boxes (take (length v.path - 1) v.path) (around_is v c.requires.stable.0) reads.outer (rw (d, c.path-path.ensures) at reads.are_outer) c.new.result.items j
    (subst (λ (l : List Item). IsRead l j) reads.are_items r) in
    split_by v c.in_ok-plan.plan _ _ _ _ _ right may c.in_ok-plan.ensures c.args.alternative c.requires.label tt
