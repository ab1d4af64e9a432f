-- Kept waits over a settle.
use Rattle.std.specs.Prelude.{List, ◌⊎◌}
use Rattle.akl_terms.specs.declared.name.Var.{Var}
use Rattle.akl_terms.specs.declared.name.Place.{Place}
use Rattle.akl_terms.specs.declared.program.Program.{Program}
use Rattle.akl_terms.specs.declared.program.Query.{Query}
use Rattle.akl_model.specs.declared.label.Rule.{Rule}
use Rattle.akl_model.specs.declared.label.Label.{Label}
use Rattle.akl_model.specs.Config.{Config}
use Rattle.akl_model.specs.Derivations.{Replays}
use Rattle.akl_model.specs.Wakes.{IsOneOf, Wait, IsOpenAfterSettle}
use Rattle.constraint_laws.specs.Touched.{IsAmong}
use Rattle.plan_laws.specs.Waits.{IsScopedAt, AreWaits}
use Rattle.plan_laws.specs.Kept.{AreLeftBySettle}
use Rattle.reading_laws.specs.SeenIdle.{KeepsOldestAt}

-- where a place is settled with variables in scope that are the oldest of their classes while its root box is consistent, the kept waits stay as they have to be
abbrev pub KeptBySettleLaw : Type 0
KeptBySettleLaw = (rules : List Rule) (p : Program) (q : Query) (journal : List Label) (c : Config) → Replays rules p q journal c
    → (before : List Place) (waits : List Wait) (still now : List Place) (waits_now : List Wait) → AreWaits c before waits
    → (own : Place) (kept : List Var) → ((x : Var) → IsAmong x kept → IsScopedAt c own x) → KeepsOldestAt c own kept
    → ((place : Place) → IsOneOf place still → IsOneOf place before) → (IsOneOf own still → ⊥)
    → ((place : Place) → IsOneOf place now → IsOpenAfterSettle still c own place) → AreLeftBySettle waits still c own kept waits_now → AreWaits c now waits_now
