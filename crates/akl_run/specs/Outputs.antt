-- Writing a text piece by piece, of which the clauses of private functions speak.
use Rattle.std.specs.Prelude.{◌≡◌, ℕ, ◌+◌, ◌<◌, ◌≤◌, List, ◌++◌, Option, length}
use Rattle.std.specs.Io.KnownBytes.{append_known}
use Rattle.akl_run.specs.declared.output.Unwritten.{Unwritten}
use Rattle.akl_run.specs.Commands.{Side, side, HasFaulted}

-- what is seen of an output: its sink, and how many bytes were written to it
pub record Outlet : Type 0 where
  pub sink : Side
  pub written : ℕ

abbrev pub outlet : Option (List ℕ) → ℕ → ℕ → Outlet
outlet bytes faults written = record { sink = side bytes faults; written = written }

-- this text was appended
pub record HasAppended (before after : Outlet) (text : List ℕ) : Type 0 where
  pub bytes : after.sink.bytes ≡ append_known before.sink.bytes text
  pub counted : after.written ≡ before.written + length text
  pub faults : before.sink.faults ≤ after.sink.faults

-- a fault is one of the sink; want of memory is free
abbrev pub IsCause : Outlet → Outlet → Unwritten → Type 0
IsCause before after Unwritten.Fault = HasFaulted before.sink after.sink
IsCause before after Unwritten.Memory = Unit {0}

-- the writing broke off: a front was appended, and what was to come behind it wasn't, where both are as said
pub record HasBrokenOff (AreParts : List ℕ → List ℕ → Type 0) (before after : Outlet) (cause : Unwritten) : Type 0 where
  pub front : List ℕ
  pub rest : List ℕ
  pub are_parts : AreParts front rest
  pub appended : HasAppended before after front
  pub is_cause : IsCause before after cause

-- together they are a text
abbrev pub PartsOf : List ℕ → List ℕ → List ℕ → Type 0
PartsOf text front rest = front ++ rest ≡ text

-- together they are a text, and the rest isn't empty
pub record ShortOf (text front rest : List ℕ) : Type 0 where
  pub whole : front ++ rest ≡ text
  pub more : 0 < length rest
