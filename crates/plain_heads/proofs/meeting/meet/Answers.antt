use Rattle.std.proofs.Common.{[], ◌+◌, arith}
use Rattle.akl_terms.specs.declared.term.Term.TheVariants.{Mol}
use Rattle.local_store.specs.Chained.{bindings_from}
use Rattle.plain_heads.specs.Plain.{pairs_in}
use Rattle.plain_heads.proofs.Along.{along_first, along_further, along_clashes, along_last, none_left}
use Rattle.plain_heads.proofs.NodeEnds.{end_there}
use Rattle.plain_heads.proofs.Passing.{end_again, none_plain, goes_first, goes_last}
use Rattle.plain_heads.proofs.meeting.meet.Goals as goal

pub loop-index-init : goal.loop-index-init
loop-index-init c = rw c.new-bindings.ensures.items (
  none_plain c.args.chain.now.nodes c.args.chain.now.stores c.requires.solved c.args.head.frame,
  along_first c.args.chain.now.nodes _ c.args.arguments.frame c.args.arguments.first c.args.arguments.count c.args.head.frame c.args.head.first c.args.head.count [],
)

pub meet_one-requires-clause-at_end : goal.meet_one-requires-clause-at_end
meet_one-requires-clause-at_end c = end_again c.args.chain.now.nodes c.args.chain.now.stores c.requires.solved c.args.head.frame c.in-Some.end.now _
    (end_there c.args.chain.now.nodes (bindings_from c.args.chain.now.stores) c.args.arguments.frame c.args.ends.now c.args.arguments.first c.loop-index.index c.in-Some.end.now c.requires.ends c.in-Some.ensures.lookup.3.0 c.in-Some.ensures.lookup.1)

pub returns-in-Clashes : goal.returns-in-Clashes
returns-in-Clashes c =
    let turn = rw (c.in-Clashes.is, c.in_ok-at.ensures) at (c.in_ok-meet_one.ensures (Mol (c.args.arguments.first + c.loop-index.index) c.args.arguments.frame)
    (end_there c.args.chain.now.nodes (bindings_from c.args.chain.now.stores) c.args.arguments.frame c.args.ends.now c.args.arguments.first c.loop-index.index c.in-Some.end.now c.requires.ends c.in-Some.ensures.lookup.3.0 c.in-Some.ensures.lookup.1)) in
    along_clashes c.args.chain.now.nodes _ c.args.arguments.frame c.args.arguments.first c.args.arguments.count c.args.head.frame c.args.head.first c.args.head.count c.loop-index.index
    (omega (arith, c.loop-index-test.true, c.min-index-end.ensures)) (omega (arith, c.loop-index-test.true, c.min-index-end.ensures)) [] c.loop-index.bindings.items c.loop-index.invariant.1 c.args.head.frame c.meet_one.new.bindings.items turn
    (pairs_in c.args.arguments c.args.head) [] (goes_first c.args.chain.now.nodes c.args.chain.now.stores c.requires.solved c.args.head.frame (pairs_in c.args.arguments c.args.head))

pub loop-index-preserved : goal.loop-index-preserved
loop-index-preserved c =
    let turn = rw (c.in-Taken.is, c.in_ok-at.ensures) at (c.in_ok-meet_one.ensures (Mol (c.args.arguments.first + c.loop-index.index) c.args.arguments.frame)
    (end_there c.args.chain.now.nodes (bindings_from c.args.chain.now.stores) c.args.arguments.frame c.args.ends.now c.args.arguments.first c.loop-index.index c.in-Some.end.now c.requires.ends c.in-Some.ensures.lookup.3.0 c.in-Some.ensures.lookup.1)) in (
      turn.0,
      along_further c.args.chain.now.nodes _ c.args.arguments.frame c.args.arguments.first c.args.arguments.count c.args.head.frame c.args.head.first c.args.head.count c.loop-index.index
          (omega (arith, c.loop-index-test.true, c.min-index-end.ensures)) (omega (arith, c.loop-index-test.true, c.min-index-end.ensures)) [] c.loop-index.bindings.items c.loop-index.invariant.1 c.args.head.frame
          c.meet_one.new.bindings.items turn,
    )

pub returns : goal.returns
returns c =
    let goes = along_last c.args.chain.now.nodes _ c.args.arguments.frame c.args.arguments.first c.args.arguments.count c.args.head.frame c.args.head.first c.args.head.count c.loop-index.index []
    c.loop-index.bindings.items (none_left c.args.arguments.count c.args.head.count c.loop-index.index (omega (arith, c.loop-index-test.false, c.min-index-end.ensures))) c.loop-index.invariant.1
    (pairs_in c.args.arguments c.args.head) [] (goes_first c.args.chain.now.nodes c.args.chain.now.stores c.requires.solved c.args.head.frame (pairs_in c.args.arguments c.args.head)) in (
      c.loop-index.invariant.0,
      goes_last c.args.chain.now.nodes c.args.chain.now.stores c.requires.solved c.args.head.frame (pairs_in c.args.arguments c.args.head) c.loop-index.bindings.items goes,
      goes.older,
    )
