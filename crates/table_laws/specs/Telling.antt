-- Plans of labels that tell something to the box of their goal: Tell, Open, Send, and Eval of a value.
use Rattle.std.specs.Prelude.{◌≡◌, ℕ, ◌+◌, Bool, List, [], ◌∷◌, ◌++◌, Some, None, ◌↔◌, slice_index}
use Rattle.akl_terms.specs.declared.name.Name.{Name}
use Rattle.akl_terms.specs.declared.name.Var.{Var}
use Rattle.akl_terms.specs.declared.name.Place.{Place}
use Rattle.akl_terms.specs.declared.program.Program.{Program}
use Rattle.akl_terms.specs.declared.program.Query.{Query}
use Rattle.akl_terms.specs.Arithmetic.{value}
use Rattle.akl_terms.specs.Tree.{Tree, integer, port}
use Rattle.akl_terms.specs.Equal.{IsConsistent}
use Rattle.akl_model.specs.declared.label.Rule.{Rule}
use Rattle.akl_model.specs.declared.label.Label.{Label}
use Rattle.akl_model.specs.Config.{Atom, Port, port_in, without_goal, Config, Found, whole}
use Rattle.akl_model.specs.Instances.{term_at}
use Rattle.akl_model.specs.Rules.{Reading, answer, receiver}
use Rattle.akl_model.specs.Derivations.{Applies}
use Rattle.step_laws.specs.Bound.{AreBoundIn}
use Rattle.plan_laws.specs.Local.{Told, told_to}
use Rattle.reading_laws.specs.Seen.{ReadsAt}
use Rattle.table_laws.specs.Rows.{Table}
use Rattle.table_laws.specs.Steps.{tells, Makes, ReducesAtom}
use Rattle.table_laws.specs.Joins.{PartStands}
use Rattle.table_laws.specs.Parts.{tells_one}
use Rattle.table_laws.specs.Added.{Added, with_added, NamesTold}
use Rattle.table_laws.specs.Planned.{GoesOnTo, Seen, LeadsOn, store_of}

-- a new port of this name, with a stream as its tail
abbrev pub opens_port : Tree → Name → Tree → Told
opens_port s name stream = record { equations = record { left = s; right = port name } ∷ []; frames = []; ports = record { name = name; tail = stream } ∷ []; tail = None }

-- with variables A and T of a new frame, a port's tail is [A|T] and A is the message; the new tail is T
abbrev pub sends_to : Program → Name → Tree → Port → Told
sends_to p frame m q = record {
  equations = record { left = q.tail; right = term_at p.templates.nodes frame (p.cell + 2) } ∷ record { left = term_at p.templates.nodes frame p.cell; right = m } ∷ [];
  frames = frame ∷ [];
  ports = [];
  tail = Some (record { name = q.name; tail = term_at p.templates.nodes frame (p.cell + 1) });
}

-- what a label of a rule tells for an atom, by what it reads, in a box with these ports, where a worker draws names from a number on
abbrev pub IsToldFor : Program → Reading → ℕ → ℕ → Rule → List Port → Atom → Told → Type 0
IsToldFor p v w next Rule.Tell ports (Atom.equation s t) told = told ≡ tells_one s t
IsToldFor p (answer (value z)) w next Rule.Eval ports (Atom.arithmetic test l r) told = told ≡ tells_one l (integer z)
IsToldFor p v w next Rule.Open ports (Atom.open_port s stream) told = told ≡ opens_port s (record { worker = w; number = next }) stream
IsToldFor p (receiver n) w next Rule.Send ports (Atom.send m r) told = (q : Port) × (port_in n ports ≡ Some q) × (told ≡ sends_to p (record { worker = w; number = next }) m q)
IsToldFor p v w next r ports a told = ⊥

-- the goal goes, and the label tells something to the box: over the equations down to it, the bindings that are added stand for what is told
pub record TellsBy (p : Program) (l : Label) (next : ℕ) (f : Found) (g : Name) (x : Added) : Type 0 where
  pub told : Told
  pub drawn : ℕ
  pub reduces : ReducesAtom p l next f g (told_to told f.content) (without_goal g f.goals) drawn
  pub is_told : IsToldFor p reduces.makes.reading l.worker next l.rule f.content.ports reduces.goal told
  pub names : NamesTold p.templates.nodes f.content.ports told x
  pub stands : PartStands p.templates.nodes f told.equations x.bindings

-- so such a label, where what its plan reads is unchanged, leads on, and what it makes in the later table is that table's own store with what the plan adds.
-- What it tells clashes there as it did
abbrev pub TellsLaterLaw : Type 0
TellsLaterLaw = (rules : List Rule) (p : Program) (q : Query) (journal further : List Label) (c : Config) (l : Label) (T : Table) (y : GoesOnTo rules p q journal further c l T)
    → (e : Config) (a : Applies rules p c l e) (g : Name) → l.place ≡ Place.Goal g → (list : List Var) → AreBoundIn c e a.site list → ReadsAt (Seen rules p q journal further) c g a.site list
    → (x : Added) (m : TellsBy p l (slice_index c.next l.worker) a.site g x)
    → (k : LeadsOn a y.table.config list) × (IsConsistent (whole a.site ++ m.told.equations) ↔ IsConsistent (whole k.applies.site ++ m.told.equations))
    × ((solved : Bool) → Makes p l (slice_index y.table.config.next l.worker) k.applies.site (tells (with_added (store_of T a.site.content.name) x) solved))
