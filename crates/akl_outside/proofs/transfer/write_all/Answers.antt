use Rattle.std.proofs.Common.{arith, sym, ap, ◌∙◌}
use Rattle.std.specs.Io.KnownBytes.{append_known}
use Rattle.akl_outside.specs.Transfer.Moves.{begin}
use Rattle.akl_outside.proofs.Pieces.{append_known-nil, append_known-append, take_next, moves_on}
use Rattle.akl_outside.proofs.transfer.write_all.Goals as goal

pub loop-written-init : goal.loop-written-init
loop-written-init g c = record {
  within = omega arith;
  wrote = append_known-nil (g.K.Sink.written c.args.sink.now);
  calls = begin;
  later = omega arith;
}

pub loop-written-preserved : goal.loop-written-preserved
loop-written-preserved g c =
    let kept = c.loop-written.invariant in
    let took = c.in-Ok.ensures in
    let joined = take_next c.loop-written.written c.in-Ok.count c.args.bytes.now in
    record {
      within = omega (arith, took.count);
      wrote = append_known-append _ _ _ _ _ kept.wrote took.bytes ∙ ap (append_known (g.K.Sink.written c.args.sink.now)) joined;
      calls = moves_on _ _ _ _ _ _ _ kept.calls took.takes (sym joined);
      later = omega (arith, took.never_falls);
    }
