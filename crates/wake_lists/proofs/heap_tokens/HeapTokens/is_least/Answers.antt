use Rattle.std.proofs.Common.{◌≡◌, ◌<◌, ◌≤◌, true, subst, arith}
use Rattle.std.proofs.lemmas.Bool.Decides.{nat_tests}
use Rattle.std.specs.BinaryHeap.{heap_items}
use Rattle.wake_lists.specs.Tokens.{Numbers, is_taken}
use Rattle.wake_lists.proofs.Taking.{all_taken}
use Rattle.wake_lists.proofs.heap_tokens.HeapTokens.is_least.Goals as goal

pub returns-in-Some : goal.returns-in-Some
returns-in-Some c = λ e k below small.
    let le : c.args.number ≤ c.in-Some.field-0.now.0 = grind (arith, nat_tests) in
    subst (λ (s : Numbers). k < s.bound → is_taken s k ≡ true) c.self.view_is
    (all_taken c.self.inside.bound (heap_items c.self.inside.free) c.in-Some.field-0.now (c.in-Some.ensures.greatest c.self.invariant.heap) c.args.number le k below) small
