use Rattle.std.proofs.Common.{◌≡◌, drop}
use Rattle.local_store.specs.Stored.{nothing}
use Rattle.stable_test.specs.Frames.{with_all_frames}
use Rattle.stable_test.proofs.frames.frames_of.Given as goal

abbrev pub invariant-loop-inner : goal.invariant-loop-inner
invariant-loop-inner l = with_all_frames l.frames (drop l.inner-index l.boxes) ≡ with_all_frames nothing l.boxes
