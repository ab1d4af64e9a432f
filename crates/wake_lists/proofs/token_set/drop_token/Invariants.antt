use Rattle.std.proofs.Common.{length}
use Rattle.wake_lists.proofs.TokensIn.{StillHas}
use Rattle.wake_lists.proofs.token_set.drop_token.Given as goal

abbrev pub invariant-loop-index : goal.invariant-loop-index
invariant-loop-index l = StillHas l.token l.fn.tokens.items l.tokens.items

abbrev pub decreases-loop-index : goal.decreases-loop-index
decreases-loop-index l = length l.tokens.items
