use Rattle.std.proofs.Common.{subst}
use Rattle.std.specs.BinaryHeap.{heap_items}
use Rattle.wake_lists.specs.Tokens.{Numbers, IsLeastFree, Takes, numbers_of}
use Rattle.wake_lists.proofs.Taking.{fewer_kept, fewer_takes, fewer_least}
use Rattle.wake_lists.proofs.heap_tokens.HeapTokens.take.Goals as goal

pub invariant_of-self : goal.invariant_of-self
invariant_of-self c = rw c.pop.ensures.capacity (fewer_kept c.self.inside.bound _ _ _ c.in-Some.field-0 c.self.invariant c.in-Some.ensures.permutation (c.in-Some.ensures.heap_order c.self.invariant.heap).0)

pub returns-in-Some-clause-least : goal.returns-in-Some-clause-least
returns-in-Some-clause-least c = subst (λ (s : Numbers). IsLeastFree s c.in-Some.field-0.0) c.self.view_is
    (fewer_least c.self.inside.bound _ _ _ c.in-Some.field-0 c.self.invariant c.in-Some.ensures.permutation (c.in-Some.ensures.below_top c.self.invariant.heap))

pub returns-in-Some-clause-takes : goal.returns-in-Some-clause-takes
returns-in-Some-clause-takes c = subst (λ (s : Numbers). Takes s (record { bound = c.self.inside.bound; free = numbers_of (heap_items c.pop.new.self) }) c.in-Some.field-0.0) c.self.view_is
    (fewer_takes c.self.inside.bound _ _ _ c.in-Some.field-0 c.self.invariant c.in-Some.ensures.permutation)
