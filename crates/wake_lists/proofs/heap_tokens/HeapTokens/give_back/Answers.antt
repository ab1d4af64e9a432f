use Rattle.std.proofs.Common.{◌≡◌, ℕ, true, sym, subst, arith}
use Rattle.std.specs.BinaryHeap.{heap_items, heap_capacity}
use Rattle.std.specs.declared.cmp.Reverse.{Reverse}
use Rattle.wake_lists.specs.Tokens.{Numbers, is_taken, GivesBack, numbers_of}
use Rattle.wake_lists.proofs.Taking.{on_ok, has_room, more_kept, more_gives}
use Rattle.wake_lists.proofs.heap_tokens.HeapTokens.give_back.Goals as goal

pub invariant_of-self : goal.invariant_of-self
invariant_of-self c =
    let number : Reverse ℕ = record { 0 = c.args.number } in
    let taken = subst (λ (s : Numbers). is_taken s c.args.number ≡ true) (sym c.self.view_is) c.requires in
    let room = has_room c.self.inside.bound (heap_capacity c.self.inside.free) (heap_items c.self.inside.free) number c.self.invariant taken in
    let fits = c.self.inside.free.data.ok in
    let ok = c.push.ensures.succeeds (omega arith) in
    more_kept c.self.inside.bound (heap_capacity c.self.inside.free) (heap_items c.self.inside.free) number c.self.invariant taken (heap_items c.push.new.self) (heap_capacity c.push.new.self)
    (on_ok c.push.result c.push.ensures.permutation ok) (on_ok c.push.result c.push.ensures.heap_order ok c.self.invariant.heap) c.push.ensures.capacity

pub returns : goal.returns
returns c =
    let number : Reverse ℕ = record { 0 = c.args.number } in
    let taken = subst (λ (s : Numbers). is_taken s c.args.number ≡ true) (sym c.self.view_is) c.requires in
    let room = has_room c.self.inside.bound (heap_capacity c.self.inside.free) (heap_items c.self.inside.free) number c.self.invariant taken in
    let fits = c.self.inside.free.data.ok in
    let ok = c.push.ensures.succeeds (omega arith) in
    subst (λ (s : Numbers). GivesBack s (record { bound = c.self.inside.bound; free = numbers_of (heap_items c.push.new.self) }) c.args.number) c.self.view_is
    (more_gives c.self.inside.bound (heap_capacity c.self.inside.free) (heap_items c.self.inside.free) number c.self.invariant taken (heap_items c.push.new.self) (on_ok c.push.result c.push.ensures.permutation ok))
