-- Plans of calls at once.
use Rattle.std.specs.Prelude.{◌≡◌, ℕ, List, ◌++◌, Some, None}
use Rattle.akl_terms.specs.declared.name.Name.{Name}
use Rattle.akl_terms.specs.declared.name.Var.{Var}
use Rattle.akl_terms.specs.declared.name.Place.{Place}
use Rattle.akl_terms.specs.declared.term.Term.{Term}
use Rattle.akl_terms.specs.declared.program.Program.{Program}
use Rattle.akl_terms.specs.declared.program.Query.{Query}
use Rattle.akl_terms.specs.Equal.{Equations}
use Rattle.akl_model.specs.declared.label.Rule.{Rule}
use Rattle.akl_model.specs.declared.label.Label.{Label}
use Rattle.akl_model.specs.Config.{Atom, Config, Found, whole, home_of}
use Rattle.akl_model.specs.Wakes.{names_around}
use Rattle.local_store.specs.Stored.{Stored}
use Rattle.step_laws.specs.Bound.{AreBoundIn}
use Rattle.plan_laws.specs.AtOnce.{by, IsAtOnce, at_once, AreInForce}
use Rattle.reading_laws.specs.Seen.{ReadsAt, ByBindings}
use Rattle.reading_laws.specs.CallsAgain.{IsAtOnceLater}
use Rattle.reading_laws.specs.QuietGuards.{EvaluatesQuietly}
use Rattle.table_laws.specs.Rows.{Table, ports_in}
use Rattle.table_laws.specs.Calls.{StandOver, CallsGoal, told_of_body}
use Rattle.table_laws.specs.Joins.{PartStands, told_of}
use Rattle.table_laws.specs.Added.{Added, with_added, NamesTold}
use Rattle.table_laws.specs.Planned.{GoesOnTo, Seen, store_of}

-- what `CallsGoal` says, where what is added to the goal's box is said in the place of the box's store: over the equations down to the box, the bindings stand for those that the call adds in the end,
-- and some bindings for those of the alternative and the first ones, as many as you like, that are told of its body
pub record CallsBy {p : Program} {c : Config} {w : ℕ} {g : Name} {f : Found} (call : IsAtOnce p c w g f) (alternative : Stored) (x : Added) (goals : List (Name × Atom)) : Type 0 where
  pub alternative_frames : alternative.frames ≡ call.last.frames
  pub alternative_ports : ports_in p.templates.nodes alternative.ports ≡ call.last.ports
  pub alternative_stands : StandOver p.templates.nodes (whole f) (whole f ++ call.last.equations) alternative.bindings
  pub between : (E more : Equations) → call.after.equations ≡ (f.content.equations ++ call.last.equations) ++ (E ++ more)
      → (bindings : List (Var × Term)) × PartStands p.templates.nodes f (call.last.equations ++ E) bindings
  pub told : Equations
  pub is_told : call.after.equations ≡ f.content.equations ++ told
  pub names : NamesTold p.templates.nodes f.content.ports (told_of call.last) x
  pub stands : PartStands p.templates.nodes f told x.bindings
  pub body : goals ≡ call.goals_left

-- so a call at once, where what its plan reads is unchanged, leads on, and what it makes in the later table is that table's own store with what the plan adds
abbrev pub CallsLaterLaw : Type 0
CallsLaterLaw = (rules : List Rule) → AreInForce rules → (p : Program) (q : Query) (journal further : List Label) (c : Config) (w : ℕ) (g : Name) (T : Table)
    (y : GoesOnTo rules p q journal further c (by w Rule.Fork (Place.Goal g) None) T) → (f : Found) → home_of g c.roots ≡ Some f
    → (call : IsAtOnce p c w g f) (list : List Var) → AreBoundIn c (at_once call) f list → (u : ReadsAt (Seen rules p q journal further) c g f list)
    → (ByBindings _ _ _ _ _ u → EvaluatesQuietly call)
    → (alternative : Stored) (x : Added) (goals : List (Name × Atom)) → CallsBy call alternative x goals
    → (k : Found) × (z : IsAtOnceLater rules call y.table.config k) × (k.content.name ≡ f.content.name) × (names_around k ≡ names_around f) × (told_of_body z.again ≡ told_of_body call)
    × AreBoundIn y.table.config (at_once z.again) k list × CallsGoal z.again alternative (with_added (store_of T f.content.name) x) goals
