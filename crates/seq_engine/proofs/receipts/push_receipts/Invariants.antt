use Rattle.std.proofs.Common.{◌≡◌, ◌+◌, ◌≤◌, ◌++◌, length, take, vec_len, vec_capacity}
use Rattle.step_commit.specs.Receipts.{receipts_from}
use Rattle.seq_engine.proofs.receipts.push_receipts.Given as goal

abbrev pub invariant-loop-label : goal.invariant-loop-label
invariant-loop-label l = record {
  pushed : l.receipts.items ≡ l.fn.receipts.items ++ receipts_from l.first l.seen (take l.label-index l.labels);
  at : l.at ≡ l.first + l.label-index;
  room : vec_len l.receipts + length l.labels ≤ vec_capacity l.receipts + l.label-index;
}
