-- What a step leaves of the marks of stores.
use Rattle.std.specs.Prelude.{◌≡◌, ℕ, Bool, true, false, List, [], ◌∷◌, Option, None, Some, ◌⊎◌, ⊤}
use Rattle.std.specs.Map.{lookup}
use Rattle.akl_terms.specs.declared.name.Name.{Name}
use Rattle.akl_terms.specs.declared.name.Place.{Place}
use Rattle.akl_terms.specs.declared.term.Term.{Term}
use Rattle.akl_terms.specs.Names.{same_name}
use Rattle.table_laws.specs.Rows.{BoxRow}
use Rattle.table_laws.specs.Writes.{home_in}
use Rattle.box_tree.specs.declared.step.Step.{Step}
use Rattle.box_tree.specs.declared.store_marks.Left.{Left}
use Rattle.box_tree.specs.declared.store_marks.StoreMark.{StoreMark}
use Rattle.box_tree.specs.StoreMarks.{store_mark}
use Rattle.box_tree.specs.Tables.{TableValue, table_of}

abbrev pub is_portless : List (Name × Term) → Bool
is_portless [] = true
is_portless (q ∷ qs) = false

-- it tells the box of its goal something, and no ports
abbrev pub leaves_store : Step → Bool
leaves_store (Step.Tell part solved) = is_portless part.ports.items
leaves_store (Step.Join part solved goals told behind) = is_portless part.ports.items
leaves_store (Step.Fork op alternatives) = false
leaves_store Step.Fail = false
leaves_store Step.Cut = false
leaves_store Step.Refute = false
leaves_store Step.Confirm = false
leaves_store (Step.Split copy copies) = false

-- the box of a goal, with the mark of its store
pub record IsHomeLeft (t : TableValue) (goal home : Name) (number : ℕ) : Type 0 where
  pub home_is : home_in ((table_of t).goal_of goal) ≡ Some home
  pub row : BoxRow
  pub there : (table_of t).box_of home ≡ Some row
  pub number_is : number ≡ store_mark t.marks home row.changed

abbrev pub IsLeftAt : TableValue → Name → Left → Type 0
IsLeftAt t goal (Left.Store home number) = IsHomeLeft t goal home number
IsLeftAt t goal left = ⊤

-- a store that is left is that of the box of the step's goal
abbrev pub HasLeft : TableValue → Place → Step → Left → Type 0
HasLeft t place step (Left.Store home number) = (leaves_store step ≡ true) × ((goal : Name) × (place ≡ Place.Goal goal) × IsHomeLeft t goal home number)
HasLeft t place step left = ⊤

abbrev pub told_in : Option BoxRow → ℕ
told_in None = 0
told_in (Some r) = r.changed

-- a root box that is solved, with the number of the last label that told it something
pub record IsToldSolved (o : Option BoxRow) (told : ℕ) : Type 0 where
  pub row : BoxRow
  pub there : o ≡ Some row
  pub told_is : told ≡ row.changed
  pub root : row.holder ≡ None
  pub at : ℕ
  pub solved : row.solved_at ≡ Some at

-- the mark of a store is as it was, or it has none; or it is left with the one that it had
abbrev pub IsMarkLeft : TableValue → Left → Name → List (Name × StoreMark) → List (Name × StoreMark) → Type 0
IsMarkLeft u left n old new = (lookup (same_name n) new ≡ lookup (same_name n) old) ⊎ ((lookup (same_name n) new ≡ None)
    ⊎ ((number : ℕ) × (told : ℕ) × (left ≡ Left.Store n number) × IsToldSolved ((table_of u).box_of n) told × (lookup (same_name n) new ≡ Some (record { told = told; number = number }))))
