-- Where a rule applies, a place is ready.
use Rattle.std.specs.Prelude.{List}
use Rattle.akl_terms.specs.declared.name.Place.{Place}
use Rattle.akl_terms.specs.declared.program.Program.{Program}
use Rattle.akl_terms.specs.declared.program.Query.{Query}
use Rattle.akl_model.specs.declared.label.Rule.{Rule}
use Rattle.akl_model.specs.declared.label.Label.{Label}
use Rattle.akl_model.specs.Config.{Config}
use Rattle.akl_model.specs.Derivations.{Applies, Replays, IsReady}

-- in the replay of every journal: where a label applies, some place is ready
abbrev pub SomeReadyLaw : Type 0
SomeReadyLaw = (rules : List Rule) (p : Program) (q : Query) (journal : List Label) (c : Config) → Replays rules p q journal c
    → (l : Label) (d : Config) → Applies rules p c l d → (place : Place) × IsReady rules p c place
