use Rattle.std.proofs.Common.{◌+◌, ◌-◌, ◌≤◌, length}
use Rattle.answer_text.specs.Answers.{longest_answer}
use Rattle.answer_lines.specs.Printing.{Moves, forest_of}
use Rattle.answer_lines.proofs.lines.print_all.Given as goal

abbrev pub invariant-loop-printer : goal.invariant-loop-printer
invariant-loop-printer l = record {
  moves : Moves (forest_of l.templates l.graph l.classes) l.fn.printer l.printer;
  grows : length l.fn.printer.out ≤ length l.printer.out;
}

abbrev pub decreases-loop-printer : goal.decreases-loop-printer
decreases-loop-printer l = (longest_answer + 1) - length l.printer.out
