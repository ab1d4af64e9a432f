-- Counts of calls and of faults.
use Rattle.std.specs.Prelude.{ℕ, ◌+◌, ◌-◌, ◌^◌, ◌≤◌, min}

-- the next value of a 64-bit counter, which stays at its last value
abbrev pub next_count : ℕ → ℕ
next_count count = min (count + 1) (2 ^ 64 - 1)

-- a 64-bit counter went up, or stands at its last value, from which it can't go up
abbrev pub Rose : ℕ → ℕ → Type 0
Rose before now = next_count before ≤ now
