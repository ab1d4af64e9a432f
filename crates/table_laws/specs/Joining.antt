-- Plans of labels by which alternatives of a choice join the box of their goal: Promote and Collect.
use Rattle.std.specs.Prelude.{◌≡◌, ℕ, Bool, List, ◌++◌, ◌↔◌, ◌⊎◌, Some, slice_index}
use Rattle.akl_terms.specs.declared.name.Name.{Name}
use Rattle.akl_terms.specs.declared.name.Var.{Var}
use Rattle.akl_terms.specs.declared.name.Place.{Place}
use Rattle.akl_terms.specs.declared.program.Program.{Program}
use Rattle.akl_terms.specs.declared.program.Query.{Query}
use Rattle.akl_terms.specs.Equal.{IsConsistent}
use Rattle.akl_model.specs.declared.label.Rule.{Rule}
use Rattle.akl_model.specs.declared.label.Label.{Label}
use Rattle.akl_model.specs.Config.{Atom, Operator, Content, Boxes, a_choice, held_in, Config, Found, whole}
use Rattle.akl_model.specs.Derivations.{Applies}
use Rattle.step_laws.specs.Bound.{AreBoundIn}
use Rattle.reading_laws.specs.Seen.{ReadsAt}
use Rattle.table_laws.specs.Rows.{Table}
use Rattle.table_laws.specs.Steps.{joins, numbered, IsPromoted, IsGathered, Makes}
use Rattle.table_laws.specs.Joins.{PartStands, told_of}
use Rattle.table_laws.specs.Added.{Added, with_added, NamesTold}
use Rattle.table_laws.specs.Planned.{GoesOnTo, Seen, LeadsOn, store_of}

-- all alternatives of a choice, which have no goals, join the box: over the equations down to it, the bindings that are added stand for what joins; the goals of what joins are new
pub record JoinsBy (p : Program) (l : Label) (next : ℕ) (f : Found) (g : Name) (x : Added) (goals : List (Name × Atom)) : Type 0 where
  pub operator : Operator
  pub alternatives : Boxes
  pub held : held_in g f.goals ≡ Some (a_choice operator alternatives)
  pub joined : Content
  pub origin : IsPromoted l alternatives joined ⊎ IsGathered p l next f.content.name operator alternatives joined
  pub names : NamesTold p.templates.nodes f.content.ports (told_of joined) x
  pub stands : PartStands p.templates.nodes f joined.equations x.bindings
  pub body : goals ≡ numbered l.worker next joined.body

-- so such a label, where what its plan reads is unchanged, leads on, and what it makes in the later table is that table's own store with what the plan adds
abbrev pub JoinsLaterLaw : Type 0
JoinsLaterLaw = (rules : List Rule) (p : Program) (q : Query) (journal further : List Label) (c : Config) (l : Label) (T : Table) (y : GoesOnTo rules p q journal further c l T)
    → (e : Config) (a : Applies rules p c l e) (g : Name) → l.place ≡ Place.Goal g → (list : List Var) → AreBoundIn c e a.site list → ReadsAt (Seen rules p q journal further) c g a.site list
    → (x : Added) (goals : List (Name × Atom)) (m : JoinsBy p l (slice_index c.next l.worker) a.site g x goals)
    → (k : LeadsOn a y.table.config list) × (IsConsistent (whole a.site ++ m.joined.equations) ↔ IsConsistent (whole k.applies.site ++ m.joined.equations))
    × ((solved : Bool) → Makes p l (slice_index y.table.config.next l.worker) k.applies.site (joins (with_added (store_of T a.site.content.name) x) solved goals))
