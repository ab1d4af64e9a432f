use Rattle.std.proofs.Common.{◌+◌, ◌-◌, length}
use Rattle.rational_unify.specs.Known.{end_of}
use Rattle.answer_text.specs.Answers.{longest_answer}
use Rattle.answer_text.specs.Pieces.{Moves}
use Rattle.answer_text.proofs.lines.print_all.Given as goal

abbrev pub invariant-loop-printer : goal.invariant-loop-printer
invariant-loop-printer g l = Moves l.templates (end_of l.templates.nodes (g.K.Lookup.bindings l.form)) l.fn.printer l.printer

abbrev pub decreases-loop-printer : goal.decreases-loop-printer
decreases-loop-printer g l = (longest_answer + 1) - length l.printer.out
