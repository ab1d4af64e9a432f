-- Plans of labels that give their box no store: what they make later is what they made.
use Rattle.std.specs.Prelude.{◌≡◌, List, slice_index}
use Rattle.akl_terms.specs.declared.name.Name.{Name}
use Rattle.akl_terms.specs.declared.name.Var.{Var}
use Rattle.akl_terms.specs.declared.name.Place.{Place}
use Rattle.akl_terms.specs.declared.program.Program.{Program}
use Rattle.akl_terms.specs.declared.program.Query.{Query}
use Rattle.akl_model.specs.declared.item.Item.{Item}
use Rattle.akl_model.specs.declared.label.Rule.{Rule}
use Rattle.akl_model.specs.declared.label.Label.{Label}
use Rattle.akl_model.specs.Config.{Config, Found}
use Rattle.akl_model.specs.Derivations.{Applies}
use Rattle.step_laws.specs.Bound.{AreBoundIn}
use Rattle.plan_laws.specs.Right.{Reads}
use Rattle.reading_laws.specs.Seen.{ReadsAt}
use Rattle.reading_laws.specs.SeenBoxes.{ReadsStable}
use Rattle.table_laws.specs.Rows.{Table}
use Rattle.table_laws.specs.Steps.{Step, tells, forks, fails, cuts, joins, refutes, confirms, splits, Makes}
use Rattle.table_laws.specs.Planned.{GoesOnTo, Seen, LeadsOn}

-- what a plan reads by its step, where the label stands at the box: a call its goal alone; Fail the goal that fails, or the box, where this is inconsistent; Cut and a comparison as a plan that tells something;
-- Split all inside its box, and that what is around it stays consistent. Steps that give the box a store aren't among these
abbrev pub ReadsFor : (U : Item → Type 0) (c : Config) (l : Label) (f : Found) (list : List Var) → Step → Type 0
ReadsFor U c l f list (forks op news) = (g : Name) × (l.place ≡ Place.Goal g) × U (Item.Goal g)
ReadsFor U c l f list fails = Reads U l.rule l.place l.alternative f
ReadsFor U c l f list cuts = (g : Name) × (l.place ≡ Place.Goal g) × ReadsAt U c g f list
ReadsFor U c l f list refutes = (g : Name) × (l.place ≡ Place.Goal g) × ReadsAt U c g f list
ReadsFor U c l f list confirms = (g : Name) × (l.place ≡ Place.Goal g) × ReadsAt U c g f list
ReadsFor U c l f list (splits copy copies) = ReadsStable U c f
ReadsFor U c l f list (tells new solved) = ⊥
ReadsFor U c l f list (joins new solved goals) = ⊥

-- so such a label, where what its plan reads is unchanged, leads on with the same step
abbrev pub SameStepLaw : Type 0
SameStepLaw = (rules : List Rule) (p : Program) (q : Query) (journal further : List Label) (c : Config) (l : Label) (T : Table) (y : GoesOnTo rules p q journal further c l T)
    → (e : Config) (a : Applies rules p c l e) (list : List Var) → AreBoundIn c e a.site list → (step : Step) → ReadsFor (Seen rules p q journal further) c l a.site list step
    → Makes p l (slice_index c.next l.worker) a.site step
    → (k : LeadsOn a y.table.config list) × Makes p l (slice_index y.table.config.next l.worker) k.applies.site step
