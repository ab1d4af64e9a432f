use Rattle.std.proofs.Common.{ℕ, take, true}
use Rattle.scheduler.specs.declared.splits.Split.{Split}
use Rattle.scheduler.specs.Splits.{same_split, is_kept}
use Rattle.wake_lists.proofs.Growing.{PartedBy}
use Rattle.scheduler.proofs.splits.Splits.remove_all.Given as goal

abbrev pub invariant-loop-split : goal.invariant-loop-split
invariant-loop-split l = PartedBy (λ (p : ℕ). true) same_split l.splits (λ p (s : Split). is_kept s l.fn.self) (λ p (s : Split). is_kept s l.self) (take l.split-index l.splits)
