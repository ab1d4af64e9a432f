-- Places in lists, and the rows of what is new.
use Rattle.std.proofs.Common.{◌≡◌, ℕ, List, [], ◌∷◌, ◌++◌, map, Bool, true, false, Option, Some, refl, sym, ◌∙◌, ap, ◌⊎◌, inl, inr}
use Rattle.std.specs.Prelude.{if◌then◌else◌}
use Rattle.akl_terms.specs.declared.name.Name.{Name}
use Rattle.akl_terms.specs.declared.name.Place.{Place}
use Rattle.akl_terms.specs.Names.{same_name}
use Rattle.akl_terms.proofs.SameNames.{same_name-refl, same_name-equal}
use Rattle.akl_model.specs.Config.{IsIn, Atom, or_else}
use Rattle.akl_model.specs.Changes.{Shape, of_atom}
use Rattle.akl_model.specs.Wakes.{IsOneOf}
use Rattle.akl_model.proofs.Options.{some_value, or_some, none_or, left_some, right_some}
use Rattle.akl_model.proofs.Scoped.{IsIn-left, IsIn-right, IsIn-either}
use Rattle.table_laws.specs.Rows.{BoxRow, GoalRow}
use Rattle.table_laws.specs.Steps.{NewBox, BoxCopy, copy_among}
use Rattle.table_laws.specs.Writes.{atom_among, new_box_of, new_goal_of, new_row, shape_among, copied_goal_of, names_drawn, names_copied}
use Rattle.opened_places.specs.Gone.{goals_named}
use Rattle.opened_places.proofs.ListedPlaces.{new_places, copy_places}

abbrev pub firsts : {A : Type 0} → List (Name × A) → List Name
firsts {A} xs = map (λ (x : Name × A). x.0) xs

pub one_left : (p : Place) (xs ys : List Place) → IsOneOf p xs → IsOneOf p (xs ++ ys)
one_left p [] ys h = absurd h
one_left p (x ∷ xs) ys (inl e) = inl e
one_left p (x ∷ xs) ys (inr h) = inr (one_left p xs ys h)

pub one_right : (p : Place) (xs ys : List Place) → IsOneOf p ys → IsOneOf p (xs ++ ys)
one_right p [] ys h = h
one_right p (x ∷ xs) ys h = inr (one_right p xs ys h)

pub one_either : (p : Place) (xs ys : List Place) → IsOneOf p (xs ++ ys) → IsOneOf p xs ⊎ IsOneOf p ys
one_either p [] ys h = inr h
one_either p (x ∷ xs) ys (inl e) = inl (inl e)
one_either p (x ∷ xs) ys (inr h) = elim (one_either p xs ys h) [ inl y ↦ inl (inr y) | inr y ↦ inr y ]

pub named_one : (g : Name) (ns : List Name) → IsIn g ns → IsOneOf (Place.Goal g) (goals_named ns)
named_one g [] h = absurd h
named_one g (m ∷ ms) (inl e) = inl (ap Place.Goal e)
named_one g (m ∷ ms) (inr h) = inr (named_one g ms h)

pub one_named : (p : Place) (ns : List Name) → IsOneOf p (goals_named ns) → (g : Name) × (p ≡ Place.Goal g) × IsIn g ns
one_named p [] h = absurd h
one_named p (m ∷ ms) (inl e) = (m, e, inl refl)
one_named p (m ∷ ms) (inr h) = let w : (g : Name) × (p ≡ Place.Goal g) × IsIn g ms = one_named p ms h in (w.0, w.1, inr w.2)

-- boxes by name, each with the names of its goals

abbrev pub part_places : List (Name × List Name) → List Place
part_places [] = []
part_places (x ∷ xs) = Place.Box x.0 ∷ (goals_named x.1 ++ part_places xs)

abbrev pub part_boxes : List (Name × List Name) → List Name
part_boxes [] = []
part_boxes (x ∷ xs) = x.0 ∷ part_boxes xs

abbrev pub part_goals : List (Name × List Name) → List Name
part_goals [] = []
part_goals (x ∷ xs) = x.1 ++ part_goals xs

abbrev pub part_names : List (Name × List Name) → List Name
part_names [] = []
part_names (x ∷ xs) = x.0 ∷ (x.1 ++ part_names xs)

pub box_one : (m : Name) (xs : List (Name × List Name)) → IsIn m (part_boxes xs) → IsOneOf (Place.Box m) (part_places xs)
box_one m [] h = absurd h
box_one m (x ∷ xs) (inl e) = inl (ap Place.Box e)
box_one m (x ∷ xs) (inr h) = inr (one_right (Place.Box m) (goals_named x.1) (part_places xs) (box_one m xs h))

pub goal_one : (g : Name) (xs : List (Name × List Name)) → IsIn g (part_goals xs) → IsOneOf (Place.Goal g) (part_places xs)
goal_one g [] h = absurd h
goal_one g (x ∷ xs) h = inr (elim (IsIn-either g x.1 (part_goals xs) h) [
  | inl y ↦ one_left (Place.Goal g) (goals_named x.1) (part_places xs) (named_one g x.1 y)
  | inr y ↦ one_right (Place.Goal g) (goals_named x.1) (part_places xs) (goal_one g xs y)
])

abbrev pub IsPart : Place → List (Name × List Name) → Type 0
IsPart p xs = ((m : Name) × (p ≡ Place.Box m) × IsIn m (part_boxes xs)) ⊎ ((g : Name) × (p ≡ Place.Goal g) × IsIn g (part_goals xs))

pub one_part : (p : Place) (xs : List (Name × List Name)) → IsOneOf p (part_places xs) → IsPart p xs
one_part p [] h = absurd h
one_part p (x ∷ xs) (inl e) = inl (x.0, e, inl refl)
one_part p (x ∷ xs) (inr h) = elim (one_either p (goals_named x.1) (part_places xs) h) [
  | inl y ↦ (let w : (g : Name) × (p ≡ Place.Goal g) × IsIn g x.1 = one_named p x.1 y in inr (w.0, w.1, IsIn-left w.0 x.1 (part_goals xs) w.2))
  | inr y ↦ elim (one_part p xs y) [ inl (m, e, i) ↦ inl (m, e, inr i) | inr (g, e, i) ↦ inr (g, e, IsIn-right g x.1 (part_goals xs) i) ]
]

pub box_named : (m : Name) (xs : List (Name × List Name)) → IsIn m (part_boxes xs) → IsIn m (part_names xs)
box_named m [] h = absurd h
box_named m (x ∷ xs) (inl e) = inl e
box_named m (x ∷ xs) (inr h) = inr (IsIn-right m x.1 (part_names xs) (box_named m xs h))

pub goal_named : (g : Name) (xs : List (Name × List Name)) → IsIn g (part_goals xs) → IsIn g (part_names xs)
goal_named g [] h = absurd h
goal_named g (x ∷ xs) h = inr (elim (IsIn-either g x.1 (part_goals xs) h) [
  | inl y ↦ IsIn-left g x.1 (part_names xs) y
  | inr y ↦ IsIn-right g x.1 (part_names xs) (goal_named g xs y)
])

-- of new boxes, and of copies

abbrev pub new_parts : List NewBox → List (Name × List Name)
new_parts [] = []
new_parts (n ∷ ns) = (n.name, map (λ (x : Name × Atom). x.0) n.goals) ∷ new_parts ns

pub new_parts_places : (news : List NewBox) → new_places news ≡ part_places (new_parts news)
new_parts_places [] = refl
new_parts_places (n ∷ ns) = ap (λ (ps : List Place). Place.Box n.name ∷ (goals_named (map (λ (x : Name × Atom). x.0) n.goals) ++ ps)) (new_parts_places ns)

pub new_parts_names : (news : List NewBox) → names_drawn news ≡ part_names (new_parts news)
new_parts_names [] = refl
new_parts_names (n ∷ ns) = ap (λ (ms : List Name). n.name ∷ (map (λ (x : Name × Atom). x.0) n.goals ++ ms)) (new_parts_names ns)

abbrev pub copy_parts : List BoxCopy → List (Name × List Name)
copy_parts [] = []
copy_parts (k ∷ ks) = (k.name, map (λ (x : Name × Shape). x.0) k.goals) ∷ copy_parts ks

pub copy_parts_places : (copies : List BoxCopy) → copy_places copies ≡ part_places (copy_parts copies)
copy_parts_places [] = refl
copy_parts_places (k ∷ ks) = ap (λ (ps : List Place). Place.Box k.name ∷ (goals_named (map (λ (x : Name × Shape). x.0) k.goals) ++ ps)) (copy_parts_places ks)

pub copy_parts_names : (copies : List BoxCopy) → names_copied copies ≡ part_names (copy_parts copies)
copy_parts_names [] = refl
copy_parts_names (k ∷ ks) = ap (λ (ms : List Name). k.name ∷ (map (λ (x : Name × Shape). x.0) k.goals ++ ms)) (copy_parts_names ks)

-- rows of what is new

-- the first of a list that has the name
search_here : {A : Type 0} (m n : Name) (x : A) (rest : Option A) → m ≡ n → (r : A) × ((if same_name m n then Some x else rest) ≡ Some r)
search_here {A} m n x rest e = (x, ap (λ (b : Bool). if b then Some x else rest) (ap (same_name m) (sym e) ∙ same_name-refl m))

search_on : {A : Type 0} (m n : Name) (x : A) (rest : Option A) → (r : A) × (rest ≡ Some r) → (r : A) × ((if same_name m n then Some x else rest) ≡ Some r)
search_on {A} m n x rest w = on (same_name m n)
  where
    on : (b : Bool) → (r : A) × ((if b then Some x else rest) ≡ Some r)
    on true = (x, refl)
    on false = w

pub searched : {A : Type 0} (m n : Name) (x : A) (rest : Option A) (r : A) → (if same_name m n then Some x else rest) ≡ Some r → ((m ≡ n) × (x ≡ r)) ⊎ (rest ≡ Some r)
searched {A} m n x rest r e = on (same_name m n) refl e
  where
    on : (b : Bool) → same_name m n ≡ b → (if b then Some x else rest) ≡ Some r → ((m ≡ n) × (x ≡ r)) ⊎ (rest ≡ Some r)
    on true q h = inl (same_name-equal m n q, some_value h)
    on false q h = inr h

pub either_some : {A : Type 0} (x y : Option A) → ((r : A) × (x ≡ Some r)) ⊎ ((r : A) × (y ≡ Some r)) → (r : A) × (or_else x y ≡ Some r)
either_some x y (inl w) = (w.0, left_some x y w.0 w.1)
either_some x y (inr w) = elim (none_or x) [ inl z ↦ (w.0, right_some x y w.0 z w.1) | inr v ↦ (v.0, left_some x y v.0 v.1) ]

pub atom_row_in : (home : Name) (k : ℕ) (xs : List (Name × Atom)) (m : Name) (r : GoalRow) → atom_among home k xs m ≡ Some r → IsIn m (map (λ (x : Name × Atom). x.0) xs)
atom_row_in home k [] m r e = cc
atom_row_in home k (x ∷ xs) m r e = elim (searched m x.0 (record { home = home; shape = of_atom x.1; changed = k }) (atom_among home k xs m) r e) [
  | inl q ↦ inl q.0
  | inr q ↦ inr (atom_row_in home k xs m r q)
]

pub in_atom_row : (home : Name) (k : ℕ) (xs : List (Name × Atom)) (m : Name) → IsIn m (map (λ (x : Name × Atom). x.0) xs) → (r : GoalRow) × (atom_among home k xs m ≡ Some r)
in_atom_row home k [] m h = absurd h
in_atom_row home k (x ∷ xs) m (inl e) = search_here m x.0 (record { home = home; shape = of_atom x.1; changed = k }) (atom_among home k xs m) e
in_atom_row home k (x ∷ xs) m (inr h) = search_on m x.0 (record { home = home; shape = of_atom x.1; changed = k }) (atom_among home k xs m) (in_atom_row home k xs m h)

shape_row_in : (home : Name) (k : ℕ) (xs : List (Name × Shape)) (m : Name) (r : GoalRow) → shape_among home k xs m ≡ Some r → IsIn m (map (λ (x : Name × Shape). x.0) xs)
shape_row_in home k [] m r e = cc
shape_row_in home k (x ∷ xs) m r e = elim (searched m x.0 (record { home = home; shape = x.1; changed = k }) (shape_among home k xs m) r e) [
  | inl q ↦ inl q.0
  | inr q ↦ inr (shape_row_in home k xs m r q)
]

in_shape_row : (home : Name) (k : ℕ) (xs : List (Name × Shape)) (m : Name) → IsIn m (map (λ (x : Name × Shape). x.0) xs) → (r : GoalRow) × (shape_among home k xs m ≡ Some r)
in_shape_row home k [] m h = absurd h
in_shape_row home k (x ∷ xs) m (inl e) = search_here m x.0 (record { home = home; shape = x.1; changed = k }) (shape_among home k xs m) e
in_shape_row home k (x ∷ xs) m (inr h) = search_on m x.0 (record { home = home; shape = x.1; changed = k }) (shape_among home k xs m) (in_shape_row home k xs m h)

pub new_box_in : (g : Name) (at : Option ℕ) (k : ℕ) (news : List NewBox) (m : Name) (r : BoxRow) → new_box_of g at k news m ≡ Some r → IsIn m (part_boxes (new_parts news))
new_box_in g at k [] m r e = cc
new_box_in g at k (n ∷ ns) m r e = elim (searched m n.name (new_row g at k n) (new_box_of g at k ns m) r e) [ inl q ↦ inl q.0 | inr q ↦ inr (new_box_in g at k ns m r q) ]

pub in_new_box : (g : Name) (at : Option ℕ) (k : ℕ) (news : List NewBox) (m : Name) → IsIn m (part_boxes (new_parts news)) → (r : BoxRow) × (new_box_of g at k news m ≡ Some r)
in_new_box g at k [] m h = absurd h
in_new_box g at k (n ∷ ns) m (inl e) = search_here m n.name (new_row g at k n) (new_box_of g at k ns m) e
in_new_box g at k (n ∷ ns) m (inr h) = search_on m n.name (new_row g at k n) (new_box_of g at k ns m) (in_new_box g at k ns m h)

pub new_goal_in : (k : ℕ) (news : List NewBox) (m : Name) (r : GoalRow) → new_goal_of k news m ≡ Some r → IsIn m (part_goals (new_parts news))
new_goal_in k [] m r e = cc
new_goal_in k (n ∷ ns) m r e = elim (or_some (atom_among n.name k n.goals m) (new_goal_of k ns m) r e) [
  | inl q ↦ IsIn-left m (map (λ (x : Name × Atom). x.0) n.goals) (part_goals (new_parts ns)) (atom_row_in n.name k n.goals m r q)
  | inr q ↦ IsIn-right m (map (λ (x : Name × Atom). x.0) n.goals) (part_goals (new_parts ns)) (new_goal_in k ns m r q.1)
]

pub in_new_goal : (k : ℕ) (news : List NewBox) (m : Name) → IsIn m (part_goals (new_parts news)) → (r : GoalRow) × (new_goal_of k news m ≡ Some r)
in_new_goal k [] m h = absurd h
in_new_goal k (n ∷ ns) m h = either_some (atom_among n.name k n.goals m) (new_goal_of k ns m) (elim (IsIn-either m (map (λ (x : Name × Atom). x.0) n.goals) (part_goals (new_parts ns)) h) [
  | inl q ↦ inl (in_atom_row n.name k n.goals m q)
  | inr q ↦ inr (in_new_goal k ns m q)
])

pub copy_box_in : (copies : List BoxCopy) (m : Name) (r : BoxCopy) → copy_among copies m ≡ Some r → IsIn m (part_boxes (copy_parts copies))
copy_box_in [] m r e = cc
copy_box_in (k ∷ ks) m r e = elim (searched m k.name k (copy_among ks m) r e) [ inl q ↦ inl q.0 | inr q ↦ inr (copy_box_in ks m r q) ]

pub in_copy_box : (copies : List BoxCopy) (m : Name) → IsIn m (part_boxes (copy_parts copies)) → (r : BoxCopy) × (copy_among copies m ≡ Some r)
in_copy_box [] m h = absurd h
in_copy_box (k ∷ ks) m (inl e) = search_here m k.name k (copy_among ks m) e
in_copy_box (k ∷ ks) m (inr h) = search_on m k.name k (copy_among ks m) (in_copy_box ks m h)

pub copy_goal_in : (j : ℕ) (copies : List BoxCopy) (m : Name) (r : GoalRow) → copied_goal_of j copies m ≡ Some r → IsIn m (part_goals (copy_parts copies))
copy_goal_in j [] m r e = cc
copy_goal_in j (k ∷ ks) m r e = elim (or_some (shape_among k.name j k.goals m) (copied_goal_of j ks m) r e) [
  | inl q ↦ IsIn-left m (map (λ (x : Name × Shape). x.0) k.goals) (part_goals (copy_parts ks)) (shape_row_in k.name j k.goals m r q)
  | inr q ↦ IsIn-right m (map (λ (x : Name × Shape). x.0) k.goals) (part_goals (copy_parts ks)) (copy_goal_in j ks m r q.1)
]

pub in_copy_goal : (j : ℕ) (copies : List BoxCopy) (m : Name) → IsIn m (part_goals (copy_parts copies)) → (r : GoalRow) × (copied_goal_of j copies m ≡ Some r)
in_copy_goal j [] m h = absurd h
in_copy_goal j (k ∷ ks) m h = either_some (shape_among k.name j k.goals m) (copied_goal_of j ks m) (elim (IsIn-either m (map (λ (x : Name × Shape). x.0) k.goals) (part_goals (copy_parts ks)) h) [
  | inl q ↦ inl (in_shape_row k.name j k.goals m q)
  | inr q ↦ inr (in_copy_goal j ks m q)
])
