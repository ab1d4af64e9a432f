-- As of how many labels the store of a box is solved with what is added to it.
use Rattle.std.specs.Prelude.{ℕ, Bool, true, false, List, [], ◌∷◌, Option, Some, None, is_some, is_none, option_and_then, if◌then◌else◌, nat_le}
use Rattle.akl_terms.specs.declared.name.Name.{Name}
use Rattle.akl_terms.specs.declared.name.Var.{Var}
use Rattle.akl_terms.specs.declared.term.Term.{Term}
use Rattle.rational_unify.specs.Known.{found_in}
use Rattle.local_store.specs.Stored.{Stored}
use Rattle.table_laws.specs.Rows.{BoxRow, Table}
use Rattle.table_laws.specs.Writes.{home_in}

-- a store binds none of the variables that are bound anew
abbrev pub binds_none : Stored → List (Var × Term) → Bool
binds_none s [] = true
binds_none s (b ∷ bs) = if is_none (found_in s.bindings b.0) then binds_none s bs else false

-- a root box that is known to be solved, and stays so with these bindings
abbrev pub takes_new : BoxRow → List (Var × Term) → Bool
takes_new r bindings = if is_none r.holder then (if is_some r.solved_at then binds_none r.store bindings else false) else false

-- where no label behind those that were seen changed the store, this is as it was. Of a root box that takes the bindings it is known of all labels; of another box it isn't known
abbrev pub solved_row : Option BoxRow → List (Var × Term) → ℕ → ℕ → Option ℕ
solved_row None bindings seen labels = None
solved_row (Some r) bindings seen labels = if nat_le r.changed seen then Some seen else (if takes_new r bindings then Some labels else None)

abbrev pub solved_with : Table → Name → List (Var × Term) → ℕ → Option ℕ
solved_with T g bindings seen = solved_row (option_and_then T.box_of (home_in (T.goal_of g))) bindings seen T.steps
