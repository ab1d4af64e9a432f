use Rattle.std.proofs.Common.{◌≡◌, ◌++◌, take}
use Rattle.box_copies.proofs.gathering.add_frames.Given as goal

abbrev pub invariant-loop-frame : goal.invariant-loop-frame
invariant-loop-frame l = l.names.items ≡ l.fn.names.items ++ take l.frame-index l.frames
