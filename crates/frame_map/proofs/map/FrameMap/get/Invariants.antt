use Rattle.std.proofs.Common.{◌≡◌, drop}
use Rattle.frame_map.specs.Roots.{all_roots, value_at}
use Rattle.frame_map.proofs.map.FrameMap.get.Given as goal

-- no root before has the name's worker
abbrev pub invariant-loop-root : goal.invariant-loop-root
invariant-loop-root g l = value_at (all_roots l.root-items) l.name ≡ value_at (drop l.root-index (all_roots l.root-items)) l.name
