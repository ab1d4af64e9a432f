-- How the parts of a split change a table.
use Rattle.std.specs.Prelude.{◌≡◌, ℕ, Bool, false, List, Option, Some, None, option_map}
use Rattle.akl_terms.specs.declared.name.Name.{Name}
use Rattle.akl_terms.specs.declared.name.Place.{Place}
use Rattle.akl_terms.specs.Names.{same_name}
use Rattle.akl_model.specs.Config.{or_else}
use Rattle.table_laws.specs.Rows.{BoxRow, GoalRow, Table}
use Rattle.table_laws.specs.Steps as laws
use Rattle.table_laws.specs.Walks.{alternatives_of}
use Rattle.table_laws.specs.Writes.{set, holder_in_row, name_after, copied_row, copied_goal_of}
use Rattle.box_tree.specs.declared.splitting.Holder.{Holder}
use Rattle.box_tree.specs.declared.view.Sight.{Sight}
use Rattle.box_tree.specs.Tables.{TableValue, table_of, op_held}
use Rattle.box_tree.specs.Edits.{SetsGoals, choice_row}
use Rattle.box_tree.specs.Paths.{sight_in}

-- copies with their goals come before what is there
abbrev pub copies_with : Option Name → Option ℕ → ℕ → List laws.BoxCopy → Table → Name → Option BoxRow
copies_with holder at number copies T m = or_else (option_map (copied_row holder at number) (laws.copy_among copies m)) (T.box_of m)

abbrev pub copied_goals_with : ℕ → List laws.BoxCopy → Table → Name → Option GoalRow
copied_goals_with number copies T m = or_else (copied_goal_of number copies m) (T.goal_of m)

-- what holds a box, with the names that it has once the copy stands after the box
abbrev pub IsHolderOf : TableValue → Name → Name → Holder → Type 0
IsHolderOf t n copy (Holder.Roots names) = (holder_in_row ((table_of t).box_of n) ≡ None) × (names.items ≡ name_after n copy t.roots)
IsHolderOf t n copy (Holder.Choice g op names) = (holder_in_row ((table_of t).box_of n) ≡ Some g) × ((home : Name) × (sight_in t (Place.Goal g) ≡ Some (home, Sight.Choice op)))
    × (names.items ≡ name_after n copy (alternatives_of ((table_of t).goal_of g)))

-- it gets these names
abbrev pub Holds : TableValue → TableValue → ℕ → Holder → Type 0
Holds t u number (Holder.Roots names) = u ≡ record t { roots = names.items; roots_changed = number }
Holds t u number (Holder.Choice g op names) = SetsGoals t u (set g (option_map (choice_row (op_held t.program.templates.nodes op) names.items number) ((table_of t).goal_of g)) (table_of t).goal_of)

-- whether it is this choice
abbrev pub is_choice : Holder → Name → Bool
is_choice (Holder.Roots names) choice = false
is_choice (Holder.Choice g op names) choice = same_name g choice
