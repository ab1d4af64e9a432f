use Rattle.std.proofs.Common.{ℕ, true}
use Rattle.scheduler.specs.declared.splits.Split.{Split}
use Rattle.scheduler.specs.Splits.{same_split, is_kept}
use Rattle.wake_lists.proofs.Growing.{parted_none, parted_next, parted_all}
use Rattle.scheduler.proofs.splits.Splits.remove_all.Goals as goal

pub loop-split-init : goal.loop-split-init
loop-split-init c = parted_none (λ (p : ℕ). true) same_split c.args.splits.now (λ p (s : Split). is_kept s c.args.self.now)

pub loop-split-preserved : goal.loop-split-preserved
loop-split-preserved c =
    parted_next (λ (p : ℕ). true) same_split c.args.splits.now (λ p (s : Split). is_kept s c.args.self.now) (λ p (s : Split). is_kept s c.loop-split.self) (λ p (s : Split). is_kept s c.remove.new.self)
    c.loop-split.split-index _ c.loop-split-test.true c.loop-split.invariant (λ p s. c.remove.ensures s)

pub returns : goal.returns
returns c = λ s.
    parted_all (λ (p : ℕ). true) same_split c.args.splits.now (λ p (s : Split). is_kept s c.args.self.now) (λ p (s : Split). is_kept s c.loop-split.self) c.loop-split.split-index c.loop-split-test.false
    c.loop-split.invariant 0 s
