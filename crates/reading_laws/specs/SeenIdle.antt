-- What an idle goal reads, by stamps and marks.
use Rattle.std.specs.Prelude.{◌≡◌, List, ◌++◌, length, map, Some}
use Rattle.akl_terms.specs.declared.name.Name.{Name}
use Rattle.akl_terms.specs.declared.name.Var.{Var}
use Rattle.akl_terms.specs.declared.name.Place.{Place}
use Rattle.akl_terms.specs.declared.program.Program.{Program}
use Rattle.akl_terms.specs.declared.program.Query.{Query}
use Rattle.akl_terms.specs.Equal.{IsConsistent}
use Rattle.constraint_laws.specs.Touched.{IsAmong}
use Rattle.akl_model.specs.declared.item.Item.{Item}
use Rattle.akl_model.specs.declared.label.Rule.{Rule}
use Rattle.akl_model.specs.declared.label.Label.{Label}
use Rattle.akl_model.specs.Config.{IsIn, Content, Config, Found, held_in, whole, home_of}
use Rattle.akl_model.specs.Derivations.{Derives, Replays, IsReady}
use Rattle.akl_model.specs.Wakes.{IsThere}
use Rattle.plan_laws.specs.Sleeps.{IsOutermostAt, IsEnough}
use Rattle.step_laws.specs.Likeness.{IsOld}
use Rattle.plan_laws.specs.Idle.{OfAlternatives}
use Rattle.plan_laws.specs.Waits.{IsScopedAt}
use Rattle.reading_laws.specs.Ends.{HasEnds}
use Rattle.reading_laws.specs.OldestStays.{KeepsOldest}
use Rattle.reading_laws.specs.Seen.{IsSeen}
use Rattle.reading_laws.specs.Unchanged.{path_to, without_first}

-- while the outermost box around a place is consistent, a list has with each of its variables that is unstructured there the oldest one that is equal to it by this box's equations
pub record KeepsOldestAt (c : Config) (place : Place) (list : List Var) : Type 0 where
  pub each : (f : Found) → IsOutermostAt c place f → IsConsistent (whole f) → KeepsOldest (whole f) list

-- the boxes down to one, but for the root box
abbrev pub inner_names : Found → List Name
inner_names f = map (λ (b : Content). b.name) (without_first (path_to f))

-- an idle goal reads itself, the bindings of the variables on which it waits, the sets of goals of the boxes down to it but for the root box, and those of its alternatives
pub record ReadsIdle (U : Item → Type 0) (kept : List Var) (g : Name) (f : Found) : Type 0 where
  pub goal : U (Item.Goal g)
  pub bindings : (x : Var) → IsAmong x kept → U (Item.Binding x)
  pub inner : (m : Name) → IsIn m (inner_names f) → U (Item.Goals m)
  pub alternatives : OfAlternatives U (held_in g f.goals)

-- the goal is there, and isn't ready; the variables are enough for it, in scope, and the oldest of their classes
pub record IsIdleStill (rules : List Rule) (p : Program) (d : Config) (g : Name) (kept : List Var) : Type 0 where
  pub there : IsThere (Place.Goal g) d.roots
  pub unready : IsReady rules p d (Place.Goal g) → ⊥
  pub enough : IsEnough p d kept (Place.Goal g)
  pub scoped : (x : Var) → IsAmong x kept → IsScopedAt d (Place.Goal g) x
  pub oldest : KeepsOldestAt d (Place.Goal g) kept

-- a goal that was idle after a prefix of a journal is so after the whole of it, where no label behind the prefix changed what it reads
abbrev pub SeenIdleLaw : Type 0
SeenIdleLaw = (rules : List Rule) (p : Program) (q : Query) (journal further : List Label) (c d : Config) → Replays rules p q journal c → Derives rules p c further d
    → (g : Name) (f : Found) → home_of g c.roots ≡ Some f → (IsReady rules p c (Place.Goal g) → ⊥) → (kept : List Var) → IsEnough p c kept (Place.Goal g)
    → ((x : Var) → IsAmong x kept → IsScopedAt c (Place.Goal g) x) → KeepsOldestAt c (Place.Goal g) kept
    → ReadsIdle (IsSeen rules p q (journal ++ further) (length journal)) kept g f → IsIdleStill rules p d g kept

-- what is in scope at a goal is so while the goal is there, since no label takes a frame from a box that stays
abbrev pub ScopedStaysLaw : Type 0
ScopedStaysLaw = (rules : List Rule) (p : Program) (q : Query) (journal : List Label) (c : Config) (ls : List Label) (d : Config) → Replays rules p q journal c → Derives rules p c ls d
    → (g : Name) (f k : Found) → home_of g c.roots ≡ Some f → home_of g d.roots ≡ Some k → (x : Var) → IsScopedAt c (Place.Goal g) x → IsScopedAt d (Place.Goal g) x

-- variables in scope at a place that are the oldest by the outermost box around it have their ends in each root box, and are of frames that were drawn
abbrev pub KeptEndsLaw : Type 0
KeptEndsLaw = (rules : List Rule) (p : Program) (q : Query) (journal : List Label) (c : Config) → Replays rules p q journal c → (place : Place) (kept : List Var)
    → ((x : Var) → IsAmong x kept → IsScopedAt c place x) → KeepsOldestAt c place kept → HasEnds c kept × ((x : Var) → IsAmong x kept → IsOld c x.frame)
