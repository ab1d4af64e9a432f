-- What contracts see of a source and a sink over a stream.
use Rattle.std.specs.Prelude.{◌≡◌, ℕ, List, Option, None, Some, true, is_some}
use Rattle.std.specs.Io.KnownBytes.{prepend_known, append_known}
use Rattle.akl_outside.specs.Counts.{next_count}

-- the bytes that the stream tells of, still to come or taken so far, and how many calls have failed
pub record StreamState : Type 0 where
  pub bytes : Option (List ℕ)
  pub faults : ℕ

-- what a stream tells now, if it told something at the start
abbrev pub told_bytes : Option (List ℕ) → Option (List ℕ) → Option (List ℕ)
told_bytes None now = None
told_bytes (Some bytes) now = now

-- a stream that told something at the start does so now
abbrev pub StaysTold : Option (List ℕ) → Option (List ℕ) → Type 0
StaysTold start now = is_some start ≡ true → is_some now ≡ true

-- a read gave these bytes
abbrev pub Gives : StreamState → List ℕ → StreamState → Type 0
Gives old bytes new = (old.bytes ≡ prepend_known bytes new.bytes) × (new.faults ≡ old.faults)

-- a write took these bytes
abbrev pub Takes : StreamState → List ℕ → StreamState → Type 0
Takes old bytes new = (new.bytes ≡ append_known old.bytes bytes) × (new.faults ≡ old.faults)

-- a read or a write failed
abbrev pub Fails : StreamState → StreamState → Type 0
Fails old new = (new.bytes ≡ old.bytes) × (new.faults ≡ next_count old.faults)
