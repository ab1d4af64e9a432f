use Rattle.std.proofs.Common.{◌+◌, drop, sym, ◌∙◌, arith}
use Rattle.local_store.proofs.Known.{drop-whole}
use Rattle.rule_plan.proofs.Solving.{begins, next_of, none_left, next_consistent, next_around, next_solving, all_solved, popped}
use Rattle.rule_plan.proofs.stores.solved_stores.Goals as goal

pub loop-store-init : goal.loop-store-init
loop-store-init c = rw (c.in_ok-stores.ensures, c.stores-path.ensures) (begins c.args.chain.now.nodes c.args.chain.now.stores c.known-known.result (c.known-known.ensures.solved.each c.known-known.result (omega arith)).form)

pub solved_store-requires : goal.solved_store-requires
solved_store-requires c =
    let test = rw (c.stores-path.ensures, drop-whole c.args.chain.now.stores c.known-known.result) at c.loop-store-test.true in
    let item = rw (c.stores-path.ensures, drop-whole c.args.chain.now.stores c.known-known.result) at c.store-item.is in
    let i = next_of c.args.chain.now.nodes c.args.chain.now.stores c.loop-store.stores.items (drop c.known-known.result c.args.chain.now.stores) c.loop-store.store-index c.store-item.result test item c.loop-store.invariant in
    let left = drop (c.loop-store.store-index + 1) (drop c.known-known.result c.args.chain.now.stores) in
    record {
      consistent = rw (c.new.ensures, c.as_slice.ensures.value, c.in_ok-push.ensures.items, c.in_ok-share.ensures, c.templates.ensures.nodes)
          (next_consistent c.args.chain.now.nodes c.args.chain.now.stores c.loop-store.stores.items c.store-item.result left i c.requires);
      around = rw (c.new.ensures, c.as_slice.ensures.value, c.in_ok-push.ensures.items, c.in_ok-share.ensures, c.templates.ensures.nodes)
          (next_around c.args.chain.now.nodes c.args.chain.now.stores c.loop-store.stores.items c.store-item.result left i);
    }

pub loop-store-preserved : goal.loop-store-preserved
loop-store-preserved c =
    let test = rw (c.stores-path.ensures, drop-whole c.args.chain.now.stores c.known-known.result) at c.loop-store-test.true in
    let item = rw (c.stores-path.ensures, drop-whole c.args.chain.now.stores c.known-known.result) at c.store-item.is in
    let i = next_of c.args.chain.now.nodes c.args.chain.now.stores c.loop-store.stores.items (drop c.known-known.result c.args.chain.now.stores) c.loop-store.store-index c.store-item.result test item c.loop-store.invariant in
    let left = drop (c.loop-store.store-index + 1) (drop c.known-known.result c.args.chain.now.stores) in
    let r = rw (c.new.ensures, c.as_slice.ensures.value, c.in_ok-push.ensures.items, c.in_ok-share.ensures, c.templates.ensures.nodes) at c.in_ok-solved.ensures in
    let pushed = rw c.in_ok-share.ensures at c.in_ok-push.ensures.items in
    let same = popped c.loop-store.stores.items c.pop.new.self.items c.store-item.result c.pop.result (sym pushed ∙ c.pop.ensures.items) (c.pop.ensures.variant.1 (omega (arith, c.in_ok-push.ensures.len))) in
    rw (c.in_ok-push-2.ensures.items, ← same)
    (next_solving c.args.chain.now.nodes c.args.chain.now.stores c.loop-store.stores.items c.store-item.result left i c.in_ok-solved.solved r)

pub returns : goal.returns
returns c =
    let test = rw (c.stores-path.ensures, drop-whole c.args.chain.now.stores c.known-known.result) at c.loop-store-test.false in
    all_solved c.args.chain.now.nodes c.args.chain.now.stores c.loop-store.stores.items
    (none_left c.args.chain.now.nodes c.args.chain.now.stores c.loop-store.stores.items (drop c.known-known.result c.args.chain.now.stores) c.loop-store.store-index test c.loop-store.invariant)
