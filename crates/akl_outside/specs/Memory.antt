-- What contracts see of a source and a sink in memory.
use Rattle.std.specs.Prelude.{◌≡◌, ℕ, List, ◌++◌}
use Rattle.akl_outside.specs.Counts.{next_count}

-- a source: the bytes still to come, the most that one read gives, the numbers of the reads that fail,
-- the number of the next read, and how many have failed
pub record SourceState : Type 0 where
  pub left : List ℕ
  pub piece : ℕ
  pub fails : List ℕ
  pub calls : ℕ
  pub faults : ℕ

-- after a read that failed
abbrev pub after_failed_read : SourceState → SourceState
after_failed_read state = record state { calls = next_count state.calls; faults = next_count state.faults }

-- a read gave these bytes
abbrev pub Gives : SourceState → List ℕ → SourceState → Type 0
Gives old bytes new = (old.left ≡ bytes ++ new.left) × (new ≡ record old { left = new.left; calls = next_count old.calls })

-- a sink: the bytes taken so far, the most that one write takes, the most that all take,
-- the numbers of the writes that fail, the number of the next write, and how many have failed
pub record SinkState : Type 0 where
  pub written : List ℕ
  pub piece : ℕ
  pub room : ℕ
  pub fails : List ℕ
  pub calls : ℕ
  pub faults : ℕ

-- after a write that took these bytes
abbrev pub after_write : SinkState → List ℕ → SinkState
after_write state bytes = record state { written = state.written ++ bytes; calls = next_count state.calls }

-- after a write that failed
abbrev pub after_failed_write : SinkState → SinkState
after_failed_write state = record state { calls = next_count state.calls; faults = next_count state.faults }
