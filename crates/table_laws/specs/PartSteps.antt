-- Steps of plans, where a store is said by what is added to the one that the box has: one law for all of them.
use Rattle.std.specs.Prelude.{◌≡◌, ℕ, Bool, List, ◌++◌, ◌↔◌, ⊤, slice_index}
use Rattle.akl_terms.specs.declared.name.Name.{Name}
use Rattle.akl_terms.specs.declared.name.Var.{Var}
use Rattle.akl_terms.specs.declared.name.Place.{Place}
use Rattle.akl_terms.specs.declared.program.Program.{Program}
use Rattle.akl_terms.specs.declared.program.Query.{Query}
use Rattle.akl_terms.specs.Equal.{Equations, IsConsistent}
use Rattle.akl_model.specs.declared.item.Item.{Item}
use Rattle.akl_model.specs.declared.label.Rule.{Rule}
use Rattle.akl_model.specs.declared.label.Label.{Label}
use Rattle.akl_model.specs.Config.{Atom, Config, Found, whole}
use Rattle.akl_model.specs.Derivations.{Applies}
use Rattle.local_store.specs.Stored.{Stored}
use Rattle.step_laws.specs.Bound.{AreBoundIn}
use Rattle.reading_laws.specs.Seen.{ReadsAt}
use Rattle.table_laws.specs.Rows.{Table}
use Rattle.table_laws.specs.Stamped.{Run, IsTableOf}
use Rattle.table_laws.specs.Steps.{Step, tells, joins, Makes}
use Rattle.table_laws.specs.Added.{Added, with_added}
use Rattle.table_laws.specs.Joining.{JoinsBy}
use Rattle.table_laws.specs.Planned.{GoesOnTo, Seen, LeadsOn, store_of}
use Rattle.table_laws.specs.SameSteps.{ReadsFor}
use Rattle.table_laws.specs.Telling.{TellsBy}

-- something is told to the box, or joins it; or the box gets no store
pub data PartStep : Type 0 where
  tells_part : Added → Bool → PartStep
  joins_part : Added → Bool → List (Name × Atom) → PartStep
  without_part : Step → PartStep

-- over the box's own store
abbrev pub step_over : Stored → PartStep → Step
step_over s (tells_part x solved) = tells (with_added s x) solved
step_over s (joins_part x solved goals) = joins (with_added s x) solved goals
step_over s (without_part step) = step

-- what the label makes of the box of its place
abbrev pub MakesPart : Program → Label → ℕ → Found → PartStep → Type 0
MakesPart p l next f (tells_part x solved) = (g : Name) × (l.place ≡ Place.Goal g) × TellsBy p l next f g x
MakesPart p l next f (joins_part x solved goals) = (g : Name) × (l.place ≡ Place.Goal g) × JoinsBy p l next f g x goals
MakesPart p l next f (without_part step) = Makes p l next f step

-- what its plan reads
abbrev pub ReadsPart : (U : Item → Type 0) (c : Config) (l : Label) (f : Found) (list : List Var) → PartStep → Type 0
ReadsPart U c l f list (tells_part x solved) = (g : Name) × (l.place ≡ Place.Goal g) × ReadsAt U c g f list
ReadsPart U c l f list (joins_part x solved goals) = (g : Name) × (l.place ≡ Place.Goal g) × ReadsAt U c g f list
ReadsPart U c l f list (without_part step) = ReadsFor U c l f list step

-- these equations, which the label adds to its box, clash later as they did
abbrev pub ClashesAlike : Found → Found → Equations → Type 0
ClashesAlike f k E = IsConsistent (whole f ++ E) ↔ IsConsistent (whole k ++ E)

abbrev pub ClashesLater : (p : Program) (l : Label) (next : ℕ) (f k : Found) (step : PartStep) → MakesPart p l next f step → Type 0
ClashesLater p l next f k (tells_part x solved) m = ClashesAlike f k m.2.told.equations
ClashesLater p l next f k (joins_part x solved goals) m = ClashesAlike f k m.2.joined.equations
ClashesLater p l next f k (without_part step) m = ⊤

-- where what the plan reads is unchanged, the label leads on, and makes of the later table the step over its own store
abbrev pub PartStepLaw : Type 0
PartStepLaw = (rules : List Rule) (p : Program) (q : Query) (journal further : List Label) (c : Config) (l : Label) (T : Table) (y : GoesOnTo rules p q journal further c l T)
    → (e : Config) (a : Applies rules p c l e) (list : List Var) → AreBoundIn c e a.site list → (step : PartStep) → ReadsPart (Seen rules p q journal further) c l a.site list step
    → (m : MakesPart p l (slice_index c.next l.worker) a.site step)
    → (k : LeadsOn a y.table.config list) × ClashesLater p l (slice_index c.next l.worker) a.site k.applies.site step m
    × Makes p l (slice_index y.table.config.next l.worker) k.applies.site (step_over (store_of T a.site.content.name) step)

-- and of the very table for which it was planned
abbrev pub PartHereLaw : Type 0
PartHereLaw = (rules : List Rule) (run : Run) (S : Table) (s : IsTableOf rules run S) (l : Label) (e : Config) (a : Applies rules run.program s.config l e) (step : PartStep)
    → MakesPart run.program l (slice_index s.config.next l.worker) a.site step
    → Makes run.program l (slice_index s.config.next l.worker) a.site (step_over (store_of S a.site.content.name) step)
