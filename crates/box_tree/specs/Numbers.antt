-- What becomes of the next numbers where a worker draws names.
use Rattle.std.specs.Prelude.{◌≡◌, ℕ, ◌+◌, ◌<◌, List, length, slice_index}
use Rattle.akl_model.specs.Derivations.{raised}
use Rattle.box_tree.specs.declared.drawing.Raised.{Raised}

-- its own number where it has one, and else all of them
abbrev pub IsRaised : List ℕ → ℕ → ℕ → Raised → Type 0
IsRaised next worker drawn (Raised.Own number) = (worker < length next) × (number ≡ slice_index next worker + drawn)
IsRaised next worker drawn (Raised.All numbers) = (w : ℕ) → slice_index numbers.items w ≡ slice_index (raised worker drawn next) w
