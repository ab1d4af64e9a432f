use Rattle.std.proofs.Common.{inl, arith}
use Rattle.plain_heads.proofs.Along.{along_further, along_clashes, along_last}
use Rattle.plain_heads.proofs.Passing.{end_again}
use Rattle.plain_heads.proofs.meeting.meet_rows.Goals as goal

pub meet_plainly-requires-clause-at_end : goal.meet_plainly-requires-clause-at_end
meet_plainly-requires-clause-at_end c = end_again c.args.chain.now.nodes c.args.chain.now.stores c.requires.solved c.args.frame c.chain_end-end.result _ (rw c.templates.ensures.nodes at c.chain_end-end.ensures)

pub returns-in-Clashes : goal.returns-in-Clashes
returns-in-Clashes c =
    let turn = rw (c.in-Clashes.is, c.in_ok-at.ensures, c.in_ok-at-2.ensures) at (c.in_ok-turn.ensures c.in_ok-at.field-0 (rw c.templates.ensures.nodes at c.chain_end-end.ensures)) in
    along_clashes c.args.chain.now.nodes _ c.args.arguments.frame c.args.arguments.first c.args.head.count c.args.head.frame c.args.head.first c.args.head.count c.loop-index.index (omega (arith, c.loop-index-test.true))
    (omega (arith, c.loop-index-test.true)) c.args.bindings.now.items c.loop-index.bindings.items c.loop-index.invariant.1 c.args.frame c.meet_plainly.new.bindings.items turn

pub loop-index-preserved : goal.loop-index-preserved
loop-index-preserved c =
    let turn = rw (c.in-Taken.is, c.in_ok-at.ensures, c.in_ok-at-2.ensures) at (c.in_ok-turn.ensures c.in_ok-at.field-0 (rw c.templates.ensures.nodes at c.chain_end-end.ensures)) in (
      turn.0,
      along_further c.args.chain.now.nodes _ c.args.arguments.frame c.args.arguments.first c.args.head.count c.args.head.frame c.args.head.first c.args.head.count c.loop-index.index (omega (arith, c.loop-index-test.true))
          (omega (arith, c.loop-index-test.true)) c.args.bindings.now.items c.loop-index.bindings.items c.loop-index.invariant.1 c.args.frame c.meet_plainly.new.bindings.items turn,
    )

pub returns : goal.returns
returns c = (
  c.loop-index.invariant.0,
  along_last c.args.chain.now.nodes _ c.args.arguments.frame c.args.arguments.first c.args.head.count c.args.head.frame c.args.head.first c.args.head.count c.loop-index.index c.args.bindings.now.items
      c.loop-index.bindings.items (inl (omega (arith, c.loop-index-test.false))) c.loop-index.invariant.1,
)
