use Rattle.std.proofs.Common.{◌≡◌, ◌+◌, ◌-◌, ◌≤◌, [], length}
use Rattle.answer_text.specs.Answers.{longest_answer}
use Rattle.answer_lines.specs.Printing.{forest_of}
use Rattle.answer_lines.proofs.Runs.{CyclesBefore}
use Rattle.answer_lines.proofs.lines.print_cycles.Given as goal

abbrev pub invariant-loop-node : goal.invariant-loop-node
invariant-loop-node l = record {
  before : CyclesBefore (forest_of l.templates l.graph l.classes) l.fn.printer l.printer l.number;
  none_left : l.printer.pieces ≡ [];
  short : length l.printer.out ≤ longest_answer;
}

abbrev pub decreases-loop-node : goal.decreases-loop-node
decreases-loop-node l = (longest_answer + 1) - length l.printer.out
