-- Items that are read: the constraints of boxes, their sets of goals, bindings, and items of two lists.
use Rattle.std.proofs.Common.{◌≡◌, List, [], ◌∷◌, ◌++◌, map, Option, Some, None, refl, ap, ◌⊎◌, inl, inr}
use Rattle.std.specs.Prelude.{IsSome}
use Rattle.akl_terms.specs.declared.name.Name.{Name}
use Rattle.akl_terms.specs.declared.name.Var.{Var}
use Rattle.constraint_laws.specs.Touched.{IsAmong}
use Rattle.akl_model.specs.declared.item.Item.{Item}
use Rattle.akl_model.specs.Config.{IsIn}
use Rattle.table_laws.specs.Rows.{BoxRow, Table}
use Rattle.table_laws.specs.Stamped.{store_stamp, goals_stamp, stamp_in}
use Rattle.box_tree.specs.Plans.{IsRead}

-- of two lists
pub read_left : (is js : List Item) (i : Item) → IsRead is i → IsRead (is ++ js) i
read_left [] js i r = absurd r
read_left (k ∷ is) js i (inl e) = inl e
read_left (k ∷ is) js i (inr r) = inr (read_left is js i r)

pub read_right : (is js : List Item) (i : Item) → IsRead js i → IsRead (is ++ js) i
read_right [] js i r = r
read_right (k ∷ is) js i r = inr (read_right is js i r)

pub read_either : (is js : List Item) (i : Item) → IsRead (is ++ js) i → IsRead is i ⊎ IsRead js i
read_either [] js i r = inr r
read_either (k ∷ is) js i (inl e) = inl (inl e)
read_either (k ∷ is) js i (inr r) = elim (read_either is js i r) [ inl x ↦ inl (inr x) | inr x ↦ inr x ]

-- the constraints of boxes, and their sets of goals
pub read_store : (ns : List Name) (m : Name) → IsIn m ns → IsRead (map Item.Store ns) (Item.Store m)
read_store [] m h = absurd h
read_store (n ∷ ns) m (inl e) = inl (ap Item.Store e)
read_store (n ∷ ns) m (inr h) = inr (read_store ns m h)

pub stores_read : (ns : List Name) (i : Item) → IsRead (map Item.Store ns) i → (m : Name) × IsIn m ns × (i ≡ Item.Store m)
stores_read [] i h = absurd h
stores_read (n ∷ ns) i (inl e) = (n, inl refl, e)
stores_read (n ∷ ns) i (inr h) = let w : (m : Name) × IsIn m ns × (i ≡ Item.Store m) = stores_read ns i h in (w.0, inr w.1, w.2)

pub read_set : (ns : List Name) (m : Name) → IsIn m ns → IsRead (map Item.Goals ns) (Item.Goals m)
read_set [] m h = absurd h
read_set (n ∷ ns) m (inl e) = inl (ap Item.Goals e)
read_set (n ∷ ns) m (inr h) = inr (read_set ns m h)

pub sets_read : (ns : List Name) (i : Item) → IsRead (map Item.Goals ns) i → (m : Name) × IsIn m ns × (i ≡ Item.Goals m)
sets_read [] i h = absurd h
sets_read (n ∷ ns) i (inl e) = (n, inl refl, e)
sets_read (n ∷ ns) i (inr h) = let w : (m : Name) × IsIn m ns × (i ≡ Item.Goals m) = sets_read ns i h in (w.0, inr w.1, w.2)

-- bindings
pub read_binding : (xs : List Var) (x : Var) → IsAmong x xs → IsRead (map Item.Binding xs) (Item.Binding x)
read_binding [] x m = absurd m
read_binding (y ∷ xs) x (inl e) = inl (ap Item.Binding e)
read_binding (y ∷ xs) x (inr m) = inr (read_binding xs x m)

pub bindings_read : (xs : List Var) (i : Item) → IsRead (map Item.Binding xs) i → (x : Var) × IsAmong x xs × (i ≡ Item.Binding x)
bindings_read [] i h = absurd h
bindings_read (x ∷ xs) i (inl e) = (x, inl refl, e)
bindings_read (x ∷ xs) i (inr h) = let w : (y : Var) × IsAmong y xs × (i ≡ Item.Binding y) = bindings_read xs i h in (w.0, inr w.1, w.2)

-- a box that has its constraint there has its set of goals there
pub set_there : (T : Table) (m : Name) → IsSome (stamp_in T (Item.Store m)) → IsSome (stamp_in T (Item.Goals m))
set_there T m h = on (T.box_of m) h
  where
    on : (o : Option BoxRow) → IsSome (store_stamp o) → IsSome (goals_stamp o)
    on None h = cc
    on (Some r) h = refl
