-- Slots without a value.
use Rattle.std.specs.Prelude.{Option, is_some, not, Bool}

abbrev pub is_free : {V : Type 0} → Option V → Bool
is_free slot = not (is_some slot)
