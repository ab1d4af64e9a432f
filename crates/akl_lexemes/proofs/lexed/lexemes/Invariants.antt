use Rattle.std.proofs.Common.{length}
use Rattle.akl_lexemes.proofs.LexemeTurns.{LexedSoFar}
use Rattle.akl_lexemes.proofs.lexed.lexemes.Given as goal

abbrev pub invariant-loop-token : goal.invariant-loop-token
invariant-loop-token l = LexedSoFar l.fn.bytes l.fn.tokens l.lexemes.items l.names l.rest

abbrev pub decreases-loop-token : goal.decreases-loop-token
decreases-loop-token l = length l.rest
