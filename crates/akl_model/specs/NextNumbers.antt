-- What labels do to the next numbers of workers.
use Rattle.std.specs.Prelude.{◌≡◌, ℕ, ◌+◌, ◌*◌, ◌≤◌, ◌<◌, ◌^◌, List, length, slice_index}
use Rattle.akl_terms.specs.declared.program.Program.{Program}
use Rattle.akl_model.specs.declared.label.Rule.{Rule}
use Rattle.akl_model.specs.declared.label.Label.{Label}
use Rattle.akl_model.specs.Config.{Config}
use Rattle.akl_model.specs.Derivations.{Applies, Derives}

-- from c to d a worker's next number is raised by the names that are drawn, fewer than 2^32, and the others' are as they were
pub record RaisesOwnNumber (c d : Config) (worker : ℕ) : Type 0 where
  pub drawn : ℕ
  pub few : drawn < 2 ^ 32
  pub own : slice_index d.next worker ≡ slice_index c.next worker + drawn
  pub others : (other : ℕ) → (other ≡ worker → ⊥) → slice_index d.next other ≡ slice_index c.next other

-- so it is with each label
abbrev pub OwnNumberLaw : Type 0
OwnNumberLaw = (rules : List Rule) (p : Program) (c : Config) (l : Label) (d : Config) → Applies rules p c l d → RaisesOwnNumber c d l.worker

-- so after a derivation no next number is above what it was and 2^32 for each label
abbrev pub FewNamesLaw : Type 0
FewNamesLaw = (rules : List Rule) (p : Program) (c : Config) (journal : List Label) (d : Config) → Derives rules p c journal d
    → (worker : ℕ) → slice_index d.next worker ≤ slice_index c.next worker + length journal * 2 ^ 32
