-- Over commits, settles and what is forgotten, the kept waits stay as they have to be.
use Rattle.std.specs.Prelude.{List, [], ◌⊎◌}
use Rattle.akl_terms.specs.declared.name.Var.{Var}
use Rattle.akl_terms.specs.declared.name.Place.{Place}
use Rattle.akl_terms.specs.declared.program.Program.{Program}
use Rattle.akl_terms.specs.declared.program.Query.{Query}
use Rattle.akl_model.specs.declared.label.Rule.{Rule}
use Rattle.akl_model.specs.declared.label.Label.{Label}
use Rattle.akl_model.specs.Config.{Config}
use Rattle.akl_model.specs.Derivations.{Applies, Replays}
use Rattle.akl_model.specs.Wakes.{IsOneOf, Wait, IsKept, Opens, IsOpenAfterSettle, IsKeptAfterCommit, IsKeptAfterSettle, IsKeptAfterForget, Concerns}
use Rattle.constraint_laws.specs.Touched.{IsAmong}
use Rattle.plan_laws.specs.Waits.{IsScopedAt, HasOldestAt, AreWaits}

-- the waits that a commit leaves, those that a settle leaves, and those that are left where a place is forgotten
pub record AreLeftByCommit (waits : List Wait) (c d : Config) (waits_now : List Wait) : Type 0 where
  pub each : (place : Place) (x : Var) → IsKept waits_now place x → IsKeptAfterCommit waits c d place x
  pub all : (place : Place) (x : Var) → IsKeptAfterCommit waits c d place x → IsKept waits_now place x

pub record AreLeftBySettle (waits : List Wait) (still : List Place) (c : Config) (own : Place) (kept : List Var) (waits_now : List Wait) : Type 0 where
  pub each : (place : Place) (x : Var) → IsKept waits_now place x → IsKeptAfterSettle waits still c own kept place x
  pub all : (place : Place) (x : Var) → IsKeptAfterSettle waits still c own kept place x → IsKept waits_now place x

pub record AreLeftByForget (waits : List Wait) (own : Place) (waits_now : List Wait) : Type 0 where
  pub each : (place : Place) (x : Var) → IsKept waits_now place x → IsKeptAfterForget waits own place x
  pub all : (place : Place) (x : Var) → IsKeptAfterForget waits own place x → IsKept waits_now place x

-- nothing is waited for at the start
abbrev pub NoWaitsLaw : Type 0
NoWaitsLaw = (c : Config) (now : List Place) → AreWaits c now []

-- a place sleeps while the class of each variable on which it waits, by the equations of the outermost box, is as it was
abbrev pub KeptByCommitLaw : Type 0
KeptByCommitLaw = (rules : List Rule) (p : Program) (q : Query) (journal : List Label) (c : Config) (l : Label) (d : Config) → Replays rules p q journal c → Applies rules p c l d
    → (before : List Place) (waits : List Wait) (now : List Place) (waits_now : List Wait) → AreWaits c before waits
    → ((place : Place) → IsOneOf place now → IsOneOf place before ⊎ Opens waits c d place) → AreLeftByCommit waits c d waits_now → AreWaits d now waits_now

-- where a place is settled with variables in scope, and the oldest of their classes
abbrev pub KeptBySettleLaw : Type 0
KeptBySettleLaw = (rules : List Rule) (p : Program) (q : Query) (journal : List Label) (c : Config) → Replays rules p q journal c
    → (before : List Place) (waits : List Wait) (still now : List Place) (waits_now : List Wait) → AreWaits c before waits
    → (own : Place) (kept : List Var) → ((x : Var) → IsAmong x kept → IsScopedAt c own x) → HasOldestAt c own kept
    → ((place : Place) → IsOneOf place still → IsOneOf place before) → (IsOneOf own still → ⊥)
    → ((place : Place) → IsOneOf place now → IsOpenAfterSettle still c own place) → AreLeftBySettle waits still c own kept waits_now → AreWaits c now waits_now

abbrev pub KeptByForgetLaw : Type 0
KeptByForgetLaw = (c : Config) (before : List Place) (waits : List Wait) (now : List Place) (waits_now : List Wait) → AreWaits c before waits
    → (own : Place) → ((place : Place) → IsOneOf place now → IsOneOf place before) → AreLeftByForget waits own waits_now → AreWaits c now waits_now

-- what concerns a place is in scope there
abbrev pub ConcernScopedLaw : Type 0
ConcernScopedLaw = (rules : List Rule) (p : Program) (q : Query) (journal : List Label) (c : Config) → Replays rules p q journal c
    → (place : Place) (x : Var) → Concerns p c x place → IsScopedAt c place x
