-- What plans of a view read.
use Rattle.std.specs.Prelude.{◌≡◌, ◌≤◌, List, [], ◌∷◌, ◌++◌, ◌⊎◌, IsSome}
use Rattle.akl_terms.specs.declared.name.Name.{Name}
use Rattle.akl_terms.specs.declared.name.Var.{Var}
use Rattle.akl_terms.specs.declared.name.Place.{Place}
use Rattle.constraint_laws.specs.Touched.{IsAmong}
use Rattle.akl_model.specs.declared.item.Item.{Item}
use Rattle.akl_model.specs.Config.{IsIn}
use Rattle.reading_laws.specs.Seen.{ReadsAt}
use Rattle.local_store.specs.Chained.{Chained}
use Rattle.reached_ends.specs.Leading.{IsLedTo}
use Rattle.reached_ends.specs.Reached.{IsReached}
use Rattle.table_laws.specs.Stamped.{stamp_in}
use Rattle.box_tree.specs.Tables.{table_of}
use Rattle.box_tree.specs.Views.{ViewValue, IsViewOf}
use Rattle.box_tree.specs.Insides.{IsItemInside, IsOfBoxes}
use Rattle.box_tree.specs.Plans.{IsRead}

-- variables that a plan of the view reads as ends: those of what the stores inside the root box lead to
pub record AreEndsOf (v : ViewValue) (ends : List Var) : Type 0 where
  pub chain : Chained
  pub nodes : chain.nodes ≡ v.table.program.templates.nodes
  pub stores : chain.stores ≡ v.stores
  pub known : chain.known ≡ v.known
  pub reached : IsReached chain ends

-- the goal, what stands in a box down to it, or the binding of one of these variables, or of one to which the stores inside the root box lead
abbrev pub IsOf : ViewValue → Name → List Var → Item → Type 0
IsOf v g binds j = (j ≡ Item.Goal g) ⊎ ((m : Name) × IsIn m v.path × ((j ≡ Item.Store m) ⊎ (j ≡ Item.Goals m))) ⊎ ((x : Var) × (IsAmong x binds ⊎ IsLedTo v.table.program.templates.nodes v.stores x) × (j ≡ Item.Binding x))

-- a plan of a view of this place that binds these variables may read: at a goal what is said above; at a box what stands in it or inside it, or in a box around it, and the bindings of
-- variables to which the stores inside the root box lead
abbrev pub MayRead : ViewValue → Place → List Var → Item → Type 0
MayRead v (Place.Goal g) binds j = IsOf v g binds j
MayRead v (Place.Box n) binds j = IsItemInside (table_of v.table) n j ⊎ IsOfBoxes v.path j ⊎ ((x : Var) × IsLedTo v.table.program.templates.nodes v.stores x × (j ≡ Item.Binding x))

abbrev pub PlanMayRead : ViewValue → List Var → Item → Type 0
PlanMayRead v binds j = MayRead v v.place binds j

-- it is enough for a plan that binds these variables, the view's table has it, and nothing else was read
pub record IsReadAt (v : ViewValue) (g : Name) (binds : List Var) (reads : List Item) : Type 0 where
  pub enough : (i : IsViewOf v) → ReadsAt (IsRead reads) i.table.config g i.site binds
  pub there : (i : IsViewOf v) (j : Item) → IsRead reads j → IsSome (stamp_in (table_of v.table) j)
  pub only : (j : Item) → IsRead reads j → IsOf v g binds j

-- a plan of the view may draw the name
abbrev pub IsDrawn : ViewValue → Name → Type 0
IsDrawn v n = (n.worker ≡ v.worker) × (v.next ≤ n.number)

-- the binding of a variable comes to the end of what was read, or a plan of the view draws its frame
abbrev pub AddsBinding : ViewValue → Var → List Item → List Item → Type 0
AddsBinding v x old new = ((new ≡ old) × IsDrawn v x.frame) ⊎ (new ≡ old ++ Item.Binding x ∷ [])

-- the same of variables one after another
abbrev pub AddsBindings : ViewValue → List Var → List Item → List Item → Type 0
AddsBindings v [] old new = new ≡ old
AddsBindings v (x ∷ xs) old new = (some : List Item) × AddsBinding v x old some × AddsBindings v xs some new
