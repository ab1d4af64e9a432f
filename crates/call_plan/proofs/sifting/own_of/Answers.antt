use Rattle.call_plan.proofs.HeadSolved.{met_clashes, met_binds}
use Rattle.call_plan.proofs.sifting.own_of.Goals as goal

pub meet-requires-clause-ends : goal.meet-requires-clause-ends
meet-requires-clause-ends c = rw c.row.ensures c.requires.ends

pub returns-in-Clashes : goal.returns-in-Clashes
returns-in-Clashes c = met_clashes c.args.chain.now.nodes c.args.chain.now.stores c.args.arguments c.args.frame c.args.clause.now c.requires.solved
    (rw (c.in-Clashes.is, c.row.ensures) at c.in_ok-meet.ensures)

pub returns-in-Binds : goal.returns-in-Binds
returns-in-Binds c =
    let met = rw (c.in-Binds.is, c.row.ensures) at c.in_ok-meet.ensures in
    record {
      store = met_binds c.args.chain.now.nodes c.args.chain.now.stores c.args.arguments c.args.frame c.args.clause.now c.requires.solved c.in-Binds.bindings.items met.1 met.2;
      plain = met.0;
    }
