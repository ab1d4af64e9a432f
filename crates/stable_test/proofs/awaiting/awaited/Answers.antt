use Rattle.std.proofs.lemmas.Result.{IfOk-weaker}
use Rattle.rational_unify.specs.Solving.{bindings_in}
use Rattle.local_store.specs.Chained.{bindings_from}
use Rattle.stable_test.proofs.AwaitedAtoms.{arith_idle, send_waits}
use Rattle.stable_test.proofs.awaiting.awaited.Goals as goal

pub returns-in_default-2 : goal.returns-in_default-2
returns-in_default-2 c = arith_idle c.args.program.now c.args.view.now.stores c.chain-chain.result c.chain-chain.ensures.nodes c.chain-chain.ensures.symbols c.chain-chain.ensures.stores c.requires.consistent
    c.args.atom c.in-Arith.test c.in-Arith.left c.in-Arith.right c.in-Arith.is c.in_ok-on-in-Arith.field-0 c.in_ok-on-in-Arith.ensures.answers (λ on e. c.in_default-2.not-Waits on e)

pub returns-in-Send : goal.returns-in-Send
returns-in-Send c =
    let s = rw (c.chain-chain.ensures.nodes, c.chain-chain.ensures.stores) at c.free_end.ensures in
    IfOk-weaker c.free_end.result _ _ (λ o h. send_waits c.args.program.now (bindings_in c.args.program.now.templates.nodes (bindings_from c.args.view.now.stores)) c.args.program.now.templates.nodes
    c.args.atom.frame c.args.atom.code c.in-Send.message c.in-Send.port c.in-Send.is o h) s
