use Rattle.std.proofs.Common.{arith}
use Rattle.wake_lists.proofs.Taking.{none_distinct}
use Rattle.wake_lists.proofs.heap_tokens.HeapTokens.new.Goals as goal

pub invariant_of-result : goal.invariant_of-result
invariant_of-result c = rw c.new.ensures.items (record { heap = rw c.new.ensures.items at c.new.ensures.heap_order; distinct = none_distinct; below = λ k e. absurd (cc); room = omega arith })
