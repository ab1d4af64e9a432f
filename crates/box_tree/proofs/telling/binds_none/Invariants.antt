use Rattle.std.proofs.Common.{◌≡◌, drop}
use Rattle.box_tree.specs.Solved.{binds_none}
use Rattle.box_tree.proofs.telling.binds_none.Given as goal

-- what is left decides
abbrev pub invariant-loop-binding : goal.invariant-loop-binding
invariant-loop-binding l = binds_none l.store (drop l.binding-index l.bindings) ≡ binds_none l.store l.bindings
