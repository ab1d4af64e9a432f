-- What a stream's own answer comes to.
use Rattle.std.specs.Prelude.{ℕ, zero, Option, None, Some}

-- a write that takes nothing takes no number of bytes
abbrev pub taken_by : Option ℕ → Option ℕ
taken_by (Some zero) = None
taken_by answer = answer
