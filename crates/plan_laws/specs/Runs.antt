-- Runs: what is open and what is waited for, over commits and settles from the query on.
use Rattle.std.specs.Prelude.{◌≡◌, ◌<◌, List, [], ◌∷◌, ◌++◌, length, Some, ◌⊎◌}
use Rattle.akl_terms.specs.declared.name.Name.{Name}
use Rattle.akl_terms.specs.declared.name.Var.{Var}
use Rattle.akl_terms.specs.declared.name.Place.{Place}
use Rattle.akl_terms.specs.declared.program.Program.{Program}
use Rattle.akl_terms.specs.declared.program.Query.{Query}
use Rattle.akl_model.specs.declared.label.Rule.{Rule}
use Rattle.akl_model.specs.declared.label.Label.{Label}
use Rattle.akl_model.specs.Config.{Config}
use Rattle.akl_model.specs.Instances.{start}
use Rattle.akl_model.specs.Derivations.{Applies, Replays, IsReady, IsQuietEnd}
use Rattle.akl_model.specs.Wakes.{boxes_around, StandsIn, Wait, IsKept, IsOneOf, IsThere, SettleOpens, IsOpenAfterCommit, IsOpenAfterSettle, IsKeptAfterCommit, IsKeptAfterSettle, IsKeptAfterForget}
use Rattle.plan_laws.specs.Sleeps.{IsEnough}

-- a commit: at least the places that it leaves open are open, and at least the waits that it leaves are kept
pub record Commits (rules : List Rule) (p : Program) (c : Config) (l : Label) (d : Config) (before : List Place) (waits : List Wait) (now : List Place) (waits_now : List Wait) : Type 0 where
  pub applies : Applies rules p c l d
  pub opens : (place : Place) → IsOpenAfterCommit before waits l c d place → IsOneOf place now
  pub keeps : (place : Place) (x : Var) → IsKeptAfterCommit waits c d place x → IsKept waits_now place x

-- a settle of a place that isn't ready, with variables that are enough for it
pub record Settles (rules : List Rule) (p : Program) (c : Config) (own : Place) (before : List Place) (waits : List Wait) (now : List Place) (waits_now : List Wait) : Type 0 where
  pub unready : IsReady rules p c own → ⊥
  pub kept : List Var
  pub enough : IsEnough p c kept own
  pub still : List Place
  pub closes : (place : Place) → IsOneOf place before → (place ≡ own) ⊎ IsOneOf place still
  pub opens : (place : Place) → IsOpenAfterSettle still c own place → IsOneOf place now
  pub keeps : (place : Place) (x : Var) → IsKeptAfterSettle waits still c own kept place x → IsKept waits_now place x

-- a place that has gone is forgotten
pub record Forgets (c : Config) (own : Place) (before : List Place) (waits : List Wait) (now : List Place) (waits_now : List Wait) : Type 0 where
  pub gone : IsThere own c.roots → ⊥
  pub closes : (place : Place) → IsOneOf place before → (place ≡ own) ⊎ IsOneOf place now
  pub keeps : (place : Place) (x : Var) → IsKeptAfterForget waits own place x → IsKept waits_now place x

-- a journal with its configuration, the open places and the kept waits, as they follow from the query's box, where all places are open
pub data Runs (rules : List Rule) (p : Program) (q : Query) : List Label → Config → List Place → List Wait → Type 0 where
  begins : {now : List Place} {waits : List Wait} → ((place : Place) → IsThere place (start p q).roots → IsOneOf place now) → Runs rules p q [] (start p q) now waits
  commits : {journal : List Label} {c d : Config} {l : Label} {before now : List Place} {waits waits_now : List Wait} → Runs rules p q journal c before waits
      → Commits rules p c l d before waits now waits_now → Runs rules p q (journal ++ l ∷ []) d now waits_now
  settles : {journal : List Label} {c : Config} {own : Place} {before now : List Place} {waits waits_now : List Wait} → Runs rules p q journal c before waits
      → Settles rules p c own before waits now waits_now → Runs rules p q journal c now waits_now
  forgets : {journal : List Label} {c : Config} {own : Place} {before now : List Place} {waits waits_now : List Wait} → Runs rules p q journal c before waits
      → Forgets c own before waits now waits_now → Runs rules p q journal c now waits_now

-- a ready place is open, or it is a box that is ready by Split alone and has an open place in it or inside it
pub data IsAwake (rules : List Rule) (p : Program) (c : Config) (now : List Place) : Place → Type 0 where
  is_open : {place : Place} → IsOneOf place now → IsAwake rules p c now place
  has_open : {n : Name} (other : Place) → ((r : IsReady rules p c (Place.Box n)) → r.label.rule ≡ Rule.Split) → IsOneOf other now → StandsIn n c.roots other → IsAwake rules p c now (Place.Box n)

-- no ready place sleeps
abbrev pub NoReadySleepsLaw : Type 0
NoReadySleepsLaw = (rules : List Rule) (p : Program) (q : Query) (journal : List Label) (c : Config) (now : List Place) (waits : List Wait) → Runs rules p q journal c now waits
    → (place : Place) → IsReady rules p c place → IsAwake rules p c now place

-- so where no place is open, no place is ready
abbrev pub QuietLaw : Type 0
QuietLaw = (rules : List Rule) (p : Program) (q : Query) (journal : List Label) (c : Config) (waits : List Wait) → Runs rules p q journal c [] waits → IsQuietEnd rules p c

-- the box that a settle opens is around its place, and so under fewer boxes
abbrev pub SettleOutLaw : Type 0
SettleOutLaw = (rules : List Rule) (p : Program) (q : Query) (journal : List Label) (c : Config) → Replays rules p q journal c
    → (own : Place) (still : List Place) (n : Name) → SettleOpens still c own n
    → (ns : List Name) × (ms : List Name) × (boxes_around own c.roots ≡ Some ns) × (boxes_around (Place.Box n) c.roots ≡ Some ms) × (length ms < length ns) × StandsIn n c.roots own
