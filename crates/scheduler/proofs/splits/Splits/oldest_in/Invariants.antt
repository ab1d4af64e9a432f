use Rattle.std.proofs.Common.{◌≡◌, None}
use Rattle.std.specs.List.{filter}
use Rattle.std.specs.BTreeMap.Range.{range_contains}
use Rattle.std.specs.declared.ops.Bound.TheVariants.{Unbounded}
use Rattle.scheduler.specs.contracts.splits.SplitOrd.TheImpl as in_order
use Rattle.scheduler.proofs.KeptSplits.{from_box}
use Rattle.scheduler.proofs.Oldest.{oldest_from}
use Rattle.scheduler.proofs.splits.Splits.oldest_in.Given as goal

-- the oldest so far, and along those that are left
abbrev pub invariant-loop-split : goal.invariant-loop-split
invariant-loop-split l = oldest_from l.table l.name l.oldest l.split-iterator ≡ oldest_from l.table l.name None (filter (range_contains in_order.cmp-value.it (from_box l.name) Unbounded) l.self)
