use Rattle.call_plan.proofs.CalledFacts.{call_solved}
use Rattle.call_plan.proofs.finding.by_clauses.Goals as goal

pub put_ends-requires-clause-solved : goal.put_ends-requires-clause-solved
put_ends-requires-clause-solved c = rw (c.chain-chain.ensures.nodes, c.chain-chain.ensures.stores, c.requires.program) (call_solved c.args.view.now c.args.goal c.args.arguments c.args.called.now c.args.drawn c.requires.called)

pub chosen-requires-clause-ends : goal.chosen-requires-clause-ends
chosen-requires-clause-ends c = rw c.as_slice-ends.ensures (rw c.row.ensures at c.in_ok-put_ends.ensures)

pub may_go-requires : goal.may_go-requires
may_go-requires c = rw (c.chain-chain.ensures.nodes, c.chain-chain.ensures.stores, c.requires.program) (call_solved c.args.view.now c.args.goal c.args.arguments c.args.called.now c.args.drawn c.requires.called)
