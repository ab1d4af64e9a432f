-- The marks that a table keeps: of variables, and of the stores of boxes.
use Rattle.std.specs.Prelude.{◌≡◌, ◌==◌, ℕ, List, [], Option, None, Some, if◌then◌else◌, ◌⊎◌}
use Rattle.std.specs.Map.{lookup}
use Rattle.akl_terms.specs.declared.name.Name.{Name}
use Rattle.akl_terms.specs.Names.{same_name}
use Rattle.variable_marks.specs.Marks.{MarksValue}
use Rattle.box_tree.specs.declared.store_marks.StoreMark.{StoreMark}

pub record TableMarksValue : Type 0 where
  pub variables : MarksValue
  pub stores : List (Name × StoreMark)

abbrev pub stores_of : Option TableMarksValue → List (Name × StoreMark)
stores_of None = []
stores_of (Some m) = m.stores

abbrev pub mark_found : ℕ → Option StoreMark → ℕ
mark_found told None = told
mark_found told (Some m) = if m.told == told then m.number else told

-- a number behind which no label changed the store of a box, where bindings are told apart: its mark, if the same label was the last to tell it something; else the number of this
abbrev pub store_mark : Option TableMarksValue → Name → ℕ → ℕ
store_mark marks n told = mark_found told (lookup (same_name n) (stores_of marks))

-- one store has this mark, or all are as they were
pub record PutsMark (old new : TableMarksValue) (name : Name) (mark : Option StoreMark) : Type 0 where
  pub each : (n : Name) → (lookup (same_name n) new.stores ≡ lookup (same_name n) old.stores) ⊎ ((n ≡ name) × (lookup (same_name n) new.stores ≡ mark))
