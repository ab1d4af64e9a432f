use Rattle.std.proofs.Common.{◌≡◌, ◌+◌, ◌-◌}
use Rattle.answer_text.specs.Pieces.{argument_pieces}
use Rattle.answer_text.proofs.printer.push_arguments.Given as goal

abbrev pub invariant-loop-k : goal.invariant-loop-k
invariant-loop-k l = l.pieces.items ≡ argument_pieces l.frame (l.first + l.k) (l.count - l.k) l.fn.pieces.items
