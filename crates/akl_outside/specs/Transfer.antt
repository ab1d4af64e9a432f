-- What several reads or writes do.
use Rattle.std.specs.Prelude.{◌≡◌, ◌<◌, ◌≤◌, ℕ, List, [], ◌++◌, Option, length}
use Rattle.std.specs.Io.KnownBytes.{prepend_known}
use Rattle.akl_outside.specs.declared.transfer.ReadError.{ReadError}
use Rattle.akl_outside.specs.declared.transfer.ReadError.TheVariants.{Failed, Memory}

-- some bytes were read, and their number is as said
abbrev pub ReadSome : Option (List ℕ) → Option (List ℕ) → (ℕ → Type 0) → Type 0
ReadSome old new IsCount = (bytes : List ℕ) × IsCount (length bytes) × (old ≡ prepend_known bytes new)

-- calls in turn, none of which failed: together they moved these bytes, and led from the start to a state
pub data Moves {S : Type 0} (Call : S → List ℕ → S → Type 0) (start : S) : List ℕ → S → Type 0 where
  begin : Moves Call start [] start
  go_on : (front back : List ℕ) (middle last : S) → Moves Call start front middle → Call middle back last → Moves Call start (front ++ back) last

-- calls in turn that moved these bytes, and then one that failed, which was the last
pub record FailsAfter {S : Type 0} (Call : S → List ℕ → S → Type 0) (Fault : S → S → Type 0) (start : S) (bytes : List ℕ) (last : S) : Type 0 where
  pub before : S
  pub moved : Moves Call start bytes before
  pub failed : Fault before last

-- why a source wasn't read: its last read failed, before the limit, or none did and there was no memory
abbrev pub StopsReading : {S : Type 0} → (S → List ℕ → S → Type 0) → (S → S → Type 0) → ℕ → S → S → ReadError → Type 0
StopsReading Call Fault limit start last Failed = (bytes : List ℕ) × (length bytes < limit) × FailsAfter Call Fault start bytes last
StopsReading Call Fault limit start last (Memory cause) = (bytes : List ℕ) × (length bytes ≤ limit) × Moves Call start bytes last
