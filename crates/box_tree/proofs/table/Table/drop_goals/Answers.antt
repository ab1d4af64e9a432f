use Rattle.std.proofs.Common.{◌++◌, List, [], ◌∷◌, sym, ◌∙◌, ap, append_assoc}
use Rattle.akl_terms.specs.declared.name.Name.{Name}
use Rattle.box_tree.proofs.Dropped.{goal_gone}
use Rattle.box_tree.proofs.table.Table.drop_goals.Goals as goal

pub loop-goal-preserved : goal.loop-goal-preserved
loop-goal-preserved c =
    let w = c.loop-goal.invariant in (
      w.0 ++ c.in-Some.goal.now ∷ [],
      append_assoc w.0 (c.in-Some.goal.now ∷ []) c.next.new.self ∙ ap (λ (ks : List Name). w.0 ++ ks) (sym c.in-Some.ensures.steps) ∙ w.1,
      goal_gone c.args.self.now c.loop-goal.self c.drop_goal.new.self w.0 c.in-Some.goal.now w.2 c.drop_goal.ensures.dropped,
    )
