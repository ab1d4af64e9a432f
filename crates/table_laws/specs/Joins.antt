-- Parts that join stores: what a plan adds to a box's store, without what others added to it meanwhile.
use Rattle.std.specs.Prelude.{◌≡◌, Bool, List, [], ◌∷◌, ◌++◌, Some, None, slice_index, ◌⊎◌}
use Rattle.akl_terms.specs.declared.name.Name.{Name}
use Rattle.akl_terms.specs.declared.name.Var.{Var}
use Rattle.akl_terms.specs.declared.name.Place.{Place}
use Rattle.akl_terms.specs.declared.term.Node.{Node}
use Rattle.akl_terms.specs.declared.term.Term.{Term}
use Rattle.akl_terms.specs.declared.program.Program.{Program}
use Rattle.akl_terms.specs.Equal.{Equation, Equations, IsTold}
use Rattle.akl_terms.specs.Standing.{StandFor}
use Rattle.akl_model.specs.declared.label.Rule.{Rule}
use Rattle.akl_model.specs.declared.label.Label.{Label}
use Rattle.akl_model.specs.Config.{Atom, Operator, Content, Boxes, Config, an_atom, a_choice, held_in, with_names, with_ports, Found, whole}
use Rattle.akl_model.specs.Derivations.{Applies}
use Rattle.rational_unify.specs.Solving.{bindings_in}
use Rattle.local_store.specs.Stored.{Stored}
use Rattle.local_store.specs.Stored as store
use Rattle.step_laws.specs.Stays.{GoesOn}
use Rattle.plan_laws.specs.Local.{Told, with_new_tail, goes, NewGoals, reduces}
use Rattle.plan_laws.specs.Right.{IsRightOn}
use Rattle.table_laws.specs.Rows.{BoxRow, Table, ports_in}
use Rattle.table_laws.specs.Stamped.{Run, IsTableOf}
use Rattle.table_laws.specs.Steps.{tells, joins, IsPromoted, IsGathered, numbered, Makes}

-- over the equations down to a box, these bindings stand for what is told to it
pub record PartStands (nodes : List Node) (f : Found) (more : Equations) (part : List (Var × Term)) : Type 0 where
  pub stands : StandFor (IsTold (whole f ++ bindings_in nodes part)) (IsTold (whole f ++ more))

-- a label that is right still, and reduces an atom by telling something to its box
pub record TellsPart {rules : List Rule} {p : Program} {c : Config} {l : Label} {e : Config} (a : Applies rules p c l e) (d : Config) (r : IsRightOn a d) (g : Name) (t : Told) : Type 0 where
  pub new : NewGoals
  pub no_goals : new.atoms ≡ []
  pub change : r.change ≡ reduces t g goes new
  pub place : l.place ≡ Place.Goal g
  pub goal : Atom
  pub held : held_in g r.applies.site.goals ≡ Some (an_atom goal)
  pub first : Equation
  pub more : Equations
  pub equations : t.equations ≡ first ∷ more

-- a store with what a part adds: the bindings stand behind those that it has, whatever these are by now
pub record IsJoined (nodes : List Node) (t : Told) (part : List (Var × Term)) (old new : Stored) : Type 0 where
  pub frames : new.frames ≡ with_names t.frames old.frames
  pub bindings : new.bindings ≡ store.joins old.bindings part
  pub ports : ports_in nodes new.ports ≡ with_ports t.ports (with_new_tail t.tail (ports_in nodes old.ports))

-- so a part that was found for the equations down to the box when the plan was made gives the box, in the table of every longer run in which the label is right still,
-- a store that is right there: the step of the table's own store and the part is what the label makes, and so leads to a table of the run that goes on (`StepLaw`).
-- No binding is read for this: bindings are read for what the label binds, for whether it clashes, and for whether the store stays solved
abbrev pub JoinsLaterLaw : Type 0
JoinsLaterLaw = (rules : List Rule) (run : Run) (T : Table) (t : IsTableOf rules run T) (c : Config) (ls : List Label) (w : GoesOn rules run.program c ls t.config)
    → (l : Label) (e : Config) (a : Applies rules run.program c l e) (r : IsRightOn a t.config) (g : Name) (told : Told) → TellsPart a t.config r g told
    → (part : List (Var × Term)) → PartStands run.program.templates.nodes a.site told.equations part
    → (row : BoxRow) → T.box_of a.site.content.name ≡ Some row → (new : Stored) → IsJoined run.program.templates.nodes told part row.store new → (solved : Bool)
    → Makes run.program l (slice_index t.config.next l.worker) r.applies.site (tells new solved)

-- a label that is right still, and by which all alternatives of a choice, which have no goals, join its box: the only one, or those that are collected
pub record JoinsPart {rules : List Rule} {p : Program} {c : Config} {l : Label} {e : Config} (a : Applies rules p c l e) (d : Config) (r : IsRightOn a d) (g : Name) (joined : Content) : Type 0 where
  pub place : l.place ≡ Place.Goal g
  pub operator : Operator
  pub alternatives : Boxes
  pub held : held_in g r.applies.site.goals ≡ Some (a_choice operator alternatives)
  pub origin : IsPromoted l alternatives joined ⊎ IsGathered p l (slice_index d.next l.worker) r.applies.site.content.name operator alternatives joined

abbrev pub told_of : Content → Told
told_of k = record { equations = k.equations; frames = k.frames; ports = k.ports; tail = None }

-- so a part that was found for the equations of what joins, over the equations down to its home, joins the home's store
abbrev pub JoinedLaterLaw : Type 0
JoinedLaterLaw = (rules : List Rule) (run : Run) (T : Table) (t : IsTableOf rules run T) (c : Config) (ls : List Label) (w : GoesOn rules run.program c ls t.config)
    → (l : Label) (e : Config) (a : Applies rules run.program c l e) (r : IsRightOn a t.config) (g : Name) (joined : Content) → JoinsPart a t.config r g joined
    → (part : List (Var × Term)) → PartStands run.program.templates.nodes a.site joined.equations part
    → (row : BoxRow) → T.box_of a.site.content.name ≡ Some row → (new : Stored) → IsJoined run.program.templates.nodes (told_of joined) part row.store new → (solved : Bool)
    → Makes run.program l (slice_index t.config.next l.worker) r.applies.site (joins new solved (numbered l.worker (slice_index t.config.next l.worker) joined.body))
