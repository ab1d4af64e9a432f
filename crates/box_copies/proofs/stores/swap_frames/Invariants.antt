use Rattle.std.proofs.Common.{◌≡◌, ◌++◌, map, take, drop}
use Rattle.box_copies.specs.Renamer.{swapped_name}
use Rattle.box_copies.proofs.stores.swap_frames.Given as goal

abbrev pub invariant-loop-frame : goal.invariant-loop-frame
invariant-loop-frame l = map (swapped_name l.names) l.fn.frames.items ≡ take l.frame-index l.frame-items ++ map (swapped_name l.names) (drop l.frame-index l.frame-items)
