use Rattle.std.proofs.Common.{◌≡◌, ◌+◌, List, ◌++◌, drop}
use Rattle.akl_model.specs.Instances.{drawn_by}
use Rattle.box_tree.specs.declared.step.NewBox.{NewBox}
use Rattle.rule_plan.specs.Made.{AreMade}
use Rattle.rule_plan.proofs.boxes.new_boxes.Given as goal

abbrev pub invariant-loop-clause : goal.invariant-loop-clause
invariant-loop-clause l = ((rest : List NewBox) → AreMade l.chain.nodes l.chain.stores l.chain.known l.call l.first.worker l.number (drop l.clause-index l.clauses) rest
    → AreMade l.chain.nodes l.chain.stores l.chain.known l.call l.first.worker l.first.number l.clauses (l.boxes.items ++ rest))
    × (l.number + drawn_by (drop l.clause-index l.clauses) ≡ l.first.number + drawn_by l.clauses)
