use Rattle.std.proofs.Common.{◌-◌, List, length, ◌∙◌, ap, sym, subst}
use Rattle.akl_terms.specs.declared.name.Name.{Name}
use Rattle.box_copies.specs.Copies.{AreBoxesOf}
use Rattle.split_plan.proofs.SeenSplit.{seen_inside, all_still, unstable, stable_site, boxes_of}
use Rattle.split_plan.proofs.planning.plan_split.Goals as goal

pub is_stable-requires-clause-inside : goal.is_stable-requires-clause-inside
is_stable-requires-clause-inside c = seen_inside c.args.view.now c.label_for-label.ensures.seen c.requires.inside.name c.requires.inside.place c.args.inside.now c.requires.inside.inside c.args.program.now c.requires.program
    c.saturating_sub-depth.result (c.saturating_sub-depth.ensures ∙ ap (λ (ns : List Name). length ns - 1) c.path.ensures)

pub is_stable-requires-clause-known : goal.is_stable-requires-clause-known
is_stable-requires-clause-known c = λ k. all_still c.args.view.now c.label_for-label.ensures.seen c.args.inside.now c.requires.inside c.args.program.now c.requires.program
    c.saturating_sub-depth.result (c.saturating_sub-depth.ensures ∙ ap (λ (ns : List Name). length ns - 1) c.path.ensures) (c.requires.known k)

pub returns-then-not-branch-clause-split : goal.returns-then-not-branch-clause-split
returns-then-not-branch-clause-split c = unstable c.args.view.now c.label_for-label.ensures.seen c.args.inside.now c.requires.inside c.args.program.now c.requires.program
    c.saturating_sub-depth.result (c.saturating_sub-depth.ensures ∙ ap (λ (ns : List Name). length ns - 1) c.path.ensures) _ c.in_ok-is_stable.ensures c.if-not-branch.true

pub split_at-requires-clause-boxes : goal.split_at-requires-clause-boxes
split_at-requires-clause-boxes c = subst (AreBoxesOf c.args.view.now) (sym c.as_slice-boxes.ensures.value) (boxes_of c.args.view.now c.args.inside.now c.requires.inside)

pub split_at-requires-clause-stable : goal.split_at-requires-clause-stable
split_at-requires-clause-stable c = (
  c.label_for-label.ensures.seen,
  stable_site c.args.view.now c.label_for-label.ensures.seen c.args.inside.now c.requires.inside c.args.program.now c.requires.program
      c.saturating_sub-depth.result (c.saturating_sub-depth.ensures ∙ ap (λ (ns : List Name). length ns - 1) c.path.ensures) _ c.in_ok-is_stable.ensures c.if-not-branch.false,
)
