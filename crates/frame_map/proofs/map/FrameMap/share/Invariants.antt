use Rattle.std.proofs.Common.{◌≡◌, take}
use Rattle.frame_map.specs.Roots.{all_roots}
use Rattle.frame_map.proofs.map.FrameMap.share.Given as goal

abbrev pub invariant-loop-root : goal.invariant-loop-root
invariant-loop-root g l = all_roots l.roots.items ≡ all_roots (take l.root-index l.root-items)
