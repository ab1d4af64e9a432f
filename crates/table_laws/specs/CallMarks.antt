-- The marks of variables in a table behind a call at once.
use Rattle.std.specs.Prelude.{◌≡◌, ℕ, List, ◌++◌, length, Some}
use Rattle.akl_terms.specs.declared.name.Name.{Name}
use Rattle.akl_terms.specs.declared.name.Var.{Var}
use Rattle.akl_model.specs.declared.label.Rule.{Rule}
use Rattle.akl_model.specs.Config.{Found, home_of}
use Rattle.step_laws.specs.Bound.{AreBoundIn}
use Rattle.plan_laws.specs.AtOnce.{IsAtOnce, labels_at_once, at_once, AreInForce}
use Rattle.plan_laws.specs.Wakes.{TellsNothing}
use Rattle.table_laws.specs.Rows.{Table}
use Rattle.table_laws.specs.Stamped.{Run, IsTableOf, AreMarked}
use Rattle.table_laws.specs.Marks.{Marks}
use Rattle.table_laws.specs.Calls.{after_labels}

-- marks stay right where a call, whose guards tell nothing, marks what its net change binds with the number of its last label
abbrev pub CallMarksLaw : Type 0
CallMarksLaw = (rules : List Rule) → AreInForce rules → (r : Run) (T U : Table) (t : IsTableOf rules r T) (w : ℕ) (g : Name) (f : Found) → home_of g t.config.roots ≡ Some f → (x : IsAtOnce r.program t.config w g f) → TellsNothing x
    → U.steps ≡ length (r.journal ++ labels_at_once x) → (list : List Var) → AreBoundIn t.config (at_once x) f list → Marks list T U → AreMarked rules r T → AreMarked rules (after_labels r x) U
