use Rattle.std.proofs.Common.{length}
use Rattle.akl_lexemes.proofs.DepthScan.{DepthSoFar}
use Rattle.akl_lexemes.proofs.depth.first_too_deep.Given as goal

abbrev pub invariant-loop-token : goal.invariant-loop-token
invariant-loop-token l = DepthSoFar l.fn.tokens l.opened l.closed l.rest

abbrev pub decreases-loop-token : goal.decreases-loop-token
decreases-loop-token l = length l.rest
