use Rattle.std.proofs.Common.{◌≡◌, ◌<◌, ℕ, false}
use Rattle.cycle_marks.specs.Components.{is_cyclic}
use Rattle.answer_lines.proofs.answer.has_cycle.Given as goal

abbrev pub invariant-loop-node : goal.invariant-loop-node
invariant-loop-node l = (i : ℕ) → i < l.node → is_cyclic l.components i ≡ false
