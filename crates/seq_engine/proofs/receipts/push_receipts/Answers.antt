use Rattle.std.proofs.Common.{arith}
use Rattle.seq_engine.proofs.ReceiptsFrom.{pushed_more}
use Rattle.seq_engine.proofs.receipts.push_receipts.Goals as goal

pub loop-label-preserved : goal.loop-label-preserved
loop-label-preserved c = record {
  pushed = pushed_more c.args.first c.args.seen c.args.labels.now c.loop-label.label-index _ c.args.receipts.now.items c.loop-label.receipts.items c.push_reserved.new.self.items c.loop-label.at c.loop-label-test.true c.loop-label.invariant.at
      c.loop-label.invariant.pushed c.push_reserved.ensures.items;
  at = omega arith;
  room = omega arith;
}
