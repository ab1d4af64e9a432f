use Rattle.std.proofs.Common.{take}
use Rattle.step_commit.specs.Cores.{AllWithin}
use Rattle.step_commit.proofs.state.first_stale.Given as goal

-- the items before this one are as they were seen
abbrev pub invariant-loop-item : goal.invariant-loop-item
invariant-loop-item l = AllWithin l.table (take l.item-index l.reads) l.seen
