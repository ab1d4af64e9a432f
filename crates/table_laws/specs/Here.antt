-- Parts of plans at the very table for which they were made.
use Rattle.std.specs.Prelude.{◌≡◌, List, ◌++◌, Some, ◌↔◌, slice_index}
use Rattle.akl_terms.specs.declared.name.Name.{Name}
use Rattle.akl_terms.specs.declared.name.Var.{Var}
use Rattle.akl_terms.specs.declared.term.Term.{Term}
use Rattle.akl_terms.specs.declared.term.Node.{Node}
use Rattle.akl_terms.specs.Equal.{Equations, IsTold}
use Rattle.akl_terms.specs.Standing.{StandFor}
use Rattle.akl_model.specs.declared.label.Rule.{Rule}
use Rattle.akl_model.specs.declared.label.Label.{Label}
use Rattle.akl_model.specs.Config.{Atom, with_names, Found, environment, whole, box_at}
use Rattle.rational_unify.specs.Solving.{bindings_in}
use Rattle.local_store.specs.Stored.{joins, all_named}
use Rattle.plan_laws.specs.Local.{Told, told_to}
use Rattle.table_laws.specs.Rows.{Table}
use Rattle.table_laws.specs.Stamped.{Run, IsTableOf}
use Rattle.table_laws.specs.Steps.{TellsGoal, JoinsGoal}
use Rattle.table_laws.specs.Joins.{PartStands}
use Rattle.table_laws.specs.Added.{Added, with_added}
use Rattle.table_laws.specs.Telling.{IsToldFor, TellsBy}
use Rattle.table_laws.specs.Joining.{JoinsBy}
use Rattle.table_laws.specs.Planned.{store_of}

-- bindings stand for equations, over all that stands for those around them
abbrev pub StandsOver : List Node → Equations → Equations → List (Var × Term) → Type 0
StandsOver nodes around E part = (D : Equations) → StandFor (IsTold D) (IsTold around) → StandFor (IsTold (D ++ bindings_in nodes part)) (IsTold E)

-- bindings stand for what is told over the equations down to a box exactly where with those of the box's own store they stand for it with the box's own equations, over all that stands for those around it
abbrev pub PartStandsLaw : Type 0
PartStandsLaw = (rules : List Rule) (run : Run) (S : Table) (s : IsTableOf rules run S) (f : Found) → box_at f.content.name s.config.roots ≡ Some f → (more : Equations) (part : List (Var × Term))
    → StandsOver run.program.templates.nodes (environment f) (whole f ++ more) (joins (store_of S f.content.name).bindings part) ↔ PartStands run.program.templates.nodes f more part

-- so what a plan adds for what it tells makes the store that the step of its own table gives the box
abbrev pub TellsHereLaw : Type 0
TellsHereLaw = (rules : List Rule) (run : Run) (S : Table) (s : IsTableOf rules run S) (f : Found) → box_at f.content.name s.config.roots ≡ Some f → (l : Label) (g : Name) (x : Added)
    → TellsBy run.program l (slice_index s.config.next l.worker) f g x → TellsGoal run.program l (slice_index s.config.next l.worker) f g (with_added (store_of S f.content.name) x)

-- and such a store that is right in its table is made by what it adds, where the frames that are added are those that are told
abbrev pub TellsFromLaw : Type 0
TellsFromLaw = (rules : List Rule) (run : Run) (S : Table) (s : IsTableOf rules run S) (f : Found) → box_at f.content.name s.config.roots ≡ Some f → (l : Label) (g : Name) (x : Added)
    → (m : TellsGoal run.program l (slice_index s.config.next l.worker) f g (with_added (store_of S f.content.name) x)) (told : Told) → m.content ≡ told_to told f.content
    → IsToldFor run.program m.reduces.makes.reading l.worker (slice_index s.config.next l.worker) l.rule f.content.ports m.reduces.goal told
    → ((old : List Name) → all_named old x.frames ≡ with_names told.frames old) → TellsBy run.program l (slice_index s.config.next l.worker) f g x

-- the same of what joins a box
abbrev pub JoinsHereLaw : Type 0
JoinsHereLaw = (rules : List Rule) (run : Run) (S : Table) (s : IsTableOf rules run S) (f : Found) → box_at f.content.name s.config.roots ≡ Some f → (l : Label) (g : Name) (x : Added) (goals : List (Name × Atom))
    → JoinsBy run.program l (slice_index s.config.next l.worker) f g x goals → JoinsGoal run.program l (slice_index s.config.next l.worker) f g (with_added (store_of S f.content.name) x) goals

abbrev pub JoinsFromLaw : Type 0
JoinsFromLaw = (rules : List Rule) (run : Run) (S : Table) (s : IsTableOf rules run S) (f : Found) → box_at f.content.name s.config.roots ≡ Some f → (l : Label) (g : Name) (x : Added) (goals : List (Name × Atom))
    → (m : JoinsGoal run.program l (slice_index s.config.next l.worker) f g (with_added (store_of S f.content.name) x) goals)
    → ((old : List Name) → all_named old x.frames ≡ with_names m.joined.frames old) → JoinsBy run.program l (slice_index s.config.next l.worker) f g x goals
