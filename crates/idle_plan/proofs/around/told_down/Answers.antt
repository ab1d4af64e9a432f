use Rattle.std.proofs.Common.{◌≡◌, ◌+◌, ℕ, subst, take, arith}
use Rattle.idle_plan.specs.Told.{ListsTold}
use Rattle.idle_plan.specs.Waits.{AreToldAround}
use Rattle.idle_plan.proofs.Steps.{around_stop, around_more, keeps_around}
use Rattle.idle_plan.proofs.around.told_down.Goals as goal

pub told_outside-requires : goal.told_outside-requires
told_outside-requires c =
    let still = rw c.requires.program at c.loop-depth.invariant.2 in
    rw (c.outer.ensures.nodes, c.outer.ensures.stores, c.chain-chain.ensures.nodes, c.chain-chain.ensures.stores, c.requires.program)
    (keeps_around c.args.view.now c.chain-chain.ensures.seen c.loop-depth.depth (omega (arith, c.loop-depth-test.true, c.requires.count)) still)

pub returns-in-None : goal.returns-in-None
returns-in-None c =
    let n = rw (c.in-None.is, c.outer.ensures.nodes, c.outer.ensures.stores, c.chain-chain.ensures.nodes, c.chain-chain.ensures.stores) at c.in_ok-own.ensures in
    around_stop c.args.program.now.templates.nodes c.args.view.now.stores c.loop-depth.depth c.args.count c.loop-depth.list.items (omega (arith, c.loop-depth-test.true)) c.loop-depth.invariant.3 n

pub loop-depth-preserved : goal.loop-depth-preserved
loop-depth-preserved c =
    let t : ListsTold c.args.program.now.templates.nodes (take (c.loop-depth.depth + 1) c.args.view.now.stores) c.in-Some.own.items =
    rw (c.in-Some.is, c.outer.ensures.nodes, c.outer.ensures.stores, c.chain-chain.ensures.nodes, c.chain-chain.ensures.stores) at c.in_ok-own.ensures in
    rw (c.in_ok-extend_from_slice-in-Some.ensures.items, c.as_slice.ensures.value) (
      omega (arith, c.loop-depth.invariant.0),
      omega (arith, c.loop-depth-test.true),
      t.consistent,
      around_more c.args.program.now.templates.nodes c.args.view.now.stores c.loop-depth.depth c.loop-depth.list.items c.in-Some.own.items c.loop-depth.invariant.0 c.loop-depth.invariant.3 t,
    )

pub returns : goal.returns
returns c =
    let e : c.loop-depth.depth ≡ c.args.count = omega (arith, c.loop-depth-test.false, c.loop-depth.invariant.1) in
    subst (λ (k : ℕ). AreToldAround c.args.program.now.templates.nodes c.args.view.now.stores k c.loop-depth.list.items) e c.loop-depth.invariant.3
