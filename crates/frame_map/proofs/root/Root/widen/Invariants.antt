use Rattle.std.proofs.Common.{◌≡◌, ◌-◌}
use Rattle.frame_map.specs.Contents.{Same}
use Rattle.frame_map.specs.Roots.{of_root, IsRoot}
use Rattle.frame_map.proofs.root.Root.widen.Given as goal

abbrev pub invariant-loop-alloc : goal.invariant-loop-alloc
invariant-loop-alloc g l = (l.self.worker ≡ l.fn.self.worker) × Same (of_root l.fn.self).contents (of_root l.self).contents × IsRoot (of_root l.self)

abbrev pub decreases-loop-alloc : goal.decreases-loop-alloc
decreases-loop-alloc g l = 64 - l.self.width
