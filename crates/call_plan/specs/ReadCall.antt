-- What the plan of a call at once read.
use Rattle.std.specs.Prelude.{◌≡◌, Bool, true, List, IsSome}
use Rattle.akl_terms.specs.declared.name.Name.{Name}
use Rattle.akl_terms.specs.declared.name.Var.{Var}
use Rattle.akl_model.specs.declared.item.Item.{Item}
use Rattle.reading_laws.specs.Seen.{ReadsAt, ByBindings}
use Rattle.table_laws.specs.Stamped.{stamp_in}
use Rattle.box_tree.specs.Tables.{table_of}
use Rattle.box_tree.specs.Views.{ViewValue, IsViewOf}
use Rattle.box_tree.specs.Plans.{IsRead}
use Rattle.guard_plan.specs.ReadAt.{IsOf}

-- it is enough for a call that binds these variables, by bindings only where goals of guards were evaluated in alternatives with plain bindings alone; the view's table has it, and nothing else was read
pub record IsReadOfCall (v : ViewValue) (g : Name) (plainly : Bool) (binds : List Var) (reads : List Item) : Type 0 where
  pub enough : (i : IsViewOf v) → (u : ReadsAt (IsRead reads) i.table.config g i.site binds) × (ByBindings (IsRead reads) i.table.config g i.site binds u → plainly ≡ true)
  pub there : (i : IsViewOf v) (j : Item) → IsRead reads j → IsSome (stamp_in (table_of v.table) j)
  pub only : (j : Item) → IsRead reads j → IsOf v g binds j
