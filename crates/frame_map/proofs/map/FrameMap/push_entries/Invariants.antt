use Rattle.std.proofs.Common.{◌≡◌, ◌++◌, drop}
use Rattle.frame_map.specs.Roots.{all_roots, entries}
use Rattle.frame_map.proofs.map.FrameMap.push_entries.Given as goal

-- the entries so far, and those of the roots that are left
abbrev pub invariant-loop-root : goal.invariant-loop-root
invariant-loop-root g l = l.list.items ++ entries (drop l.root-index (all_roots l.root-items)) ≡ l.fn.list.items ++ entries (all_roots l.root-items)
