-- The marks of variables in a table behind labels that list what they bind.
use Rattle.std.specs.Prelude.{◌≡◌, ◌+◌, List, [], ◌⊎◌}
use Rattle.akl_terms.specs.declared.name.Var.{Var}
use Rattle.akl_terms.specs.declared.program.Program.{Program}
use Rattle.akl_terms.specs.declared.program.Query.{Query}
use Rattle.constraint_laws.specs.Touched.{IsAmong}
use Rattle.akl_model.specs.declared.label.Rule.{Rule}
use Rattle.akl_model.specs.declared.label.Label.{Label}
use Rattle.akl_model.specs.Config.{Config}
use Rattle.akl_model.specs.Derivations.{Applies}
use Rattle.step_laws.specs.Bound.{AreBoundIn}
use Rattle.table_laws.specs.Rows.{Table}
use Rattle.table_laws.specs.Stamped.{Run, followed_by, IsTableOf, AreMarked}

-- each variable has in the second table the number of its labels, or it isn't one of these and has what it had in the first
pub record Marks (list : List Var) (T U : Table) : Type 0 where
  pub each : (x : Var) → (U.mark_of x ≡ U.steps) ⊎ ((IsAmong x list → ⊥) × (U.mark_of x ≡ T.mark_of x))

-- before the first label each mark is 0
abbrev pub MarksStartLaw : Type 0
MarksStartLaw = (rules : List Rule) (p : Program) (q : Query) (T : Table) → ((x : Var) → T.mark_of x ≡ 0) → AreMarked rules (record { program = p; query = q; journal = [] }) T

-- marks stay right where a label marks what it binds
abbrev pub MarksStepLaw : Type 0
MarksStepLaw = (rules : List Rule) (r : Run) (T U : Table) (l : Label) (d : Config) (t : IsTableOf rules r T) (a : Applies rules r.program t.config l d) → U.steps ≡ T.steps + 1
    → (list : List Var) → AreBoundIn t.config d a.site list → Marks list T U → AreMarked rules r T → AreMarked rules (followed_by r l) U
