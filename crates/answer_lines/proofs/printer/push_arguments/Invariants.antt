use Rattle.std.proofs.Common.{◌≡◌, drop}
use Rattle.answer_lines.specs.Printing.{argument_pieces}
use Rattle.answer_lines.proofs.printer.push_arguments.Given as goal

abbrev pub invariant-loop-k : goal.invariant-loop-k
invariant-loop-k l = l.pieces.items ≡ argument_pieces (drop l.k l.row) l.fn.pieces.items
