use Rattle.std.proofs.Common.{take}
use Rattle.variable_marks.specs.Marks.{MarksEach}
use Rattle.variable_marks.proofs.marks.Marks.mark_each.Given as goal

abbrev pub invariant-loop-variable : goal.invariant-loop-variable
invariant-loop-variable l = MarksEach (take l.variable-index l.variables) l.number l.fn.self l.self
