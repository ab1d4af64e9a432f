-- Stores with the frames of boxes.
use Rattle.std.specs.Prelude.{List, [], ◌∷◌}
use Rattle.local_store.specs.Stored.{Stored}
use Rattle.local_store.specs.Promoting.{with_frames}
use Rattle.box_tree.specs.declared.inside.InnerBox.{InnerBox}

-- with the frames of all of these boxes
abbrev pub with_all_frames : Stored → List InnerBox → Stored
with_all_frames s [] = s
with_all_frames s (b ∷ bs) = with_all_frames (with_frames s b.store.frames) bs
