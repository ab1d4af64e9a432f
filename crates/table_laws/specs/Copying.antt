-- Copies that are made of a table's rows, by other names.
use Rattle.std.specs.Prelude.{◌≡◌, ℕ, ◌+◌, ◌≤◌, List, [], ◌∷◌, ◌++◌, map, Option, Some, None, option_map, if◌then◌else◌, ◌⊎◌}
use Rattle.akl_terms.specs.declared.name.Name.{Name}
use Rattle.akl_terms.specs.declared.term.Term.{Term}
use Rattle.akl_terms.specs.Names.{same_name}
use Rattle.akl_model.specs.Config.{IsIn}
use Rattle.akl_model.specs.Renaming.{renamed_tree, renamed_atom, renamed_operator, renamed_equation, renamed_port, renamed_shown}
use Rattle.akl_model.specs.Names.{times_in}
use Rattle.akl_model.specs.Ordered.{IsIncreasing}
use Rattle.akl_model.specs.Changes.{Shape, of_atom, of_choice}
use Rattle.constraint_laws.specs.StandingGrows.{AreToldIn}
use Rattle.rational_unify.specs.Solving.{bindings_in}
use Rattle.table_laws.specs.Rows.{BoxRow, GoalRow, Table, ports_in}
use Rattle.table_laws.specs.Inside.{IsInside}
use Rattle.table_laws.specs.Steps.{BoxCopy, copy_among}
use Rattle.table_laws.specs.Writes.{less_name}

-- what a split copies: a box and the boxes inside it, but for the alternative that the first one keeps
pub record IsCopied (T : Table) (n al m : Name) : Type 0 where
  pub inside : IsInside T n m
  pub other : m ≡ al → ⊥

-- a name of one of these boxes, or of a frame, a port or a goal that it has
pub record IsNameCopied (T : Table) (n al m : Name) : Type 0 where
  pub box : Name
  pub copied : IsCopied T n al box
  pub row : BoxRow
  pub there : T.box_of box ≡ Some row
  pub named : (m ≡ box) ⊎ (IsIn m row.store.frames ⊎ (IsIn m (map (λ (p : Name × Term). p.0) row.store.ports) ⊎ IsIn m row.goals))

-- all of these names, in increasing order
pub record AreNamesCopied (T : Table) (n al : Name) (names : List Name) : Type 0 where
  pub increasing : IsIncreasing names
  pub each : (m : Name) → IsNameCopied T n al m → IsIn m names
  pub only : (m : Name) → IsIn m names → IsNameCopied T n al m

-- the names in their order and a worker's names from this number on become each other; other names stay
abbrev pub swapping : List Name → ℕ → ℕ → Name → Name
swapping [] w next n = n
swapping (m ∷ ms) w next n =
    if same_name n m then record { worker = w; number = next } else (if same_name n (record { worker = w; number = next }) then m else swapping ms w (next + 1) n)

-- goals under other names, and without the alternative
abbrev pub copied_shape : Name → (Name → Name) → Shape → Shape
copied_shape al swap (of_atom a) = of_atom (renamed_atom swap a)
copied_shape al swap (of_choice op alternatives) = of_choice (renamed_operator swap op) (map swap (less_name al alternatives))

abbrev pub copied_goal : Name → (Name → Name) → Name → Option GoalRow → List (Name × Shape)
copied_goal al swap g None = []
copied_goal al swap g (Some r) = (swap g, copied_shape al swap r.shape) ∷ []

abbrev pub copied_goals : Table → Name → (Name → Name) → List Name → List (Name × Shape)
copied_goals T al swap [] = []
copied_goals T al swap (g ∷ gs) = copied_goal al swap g (T.goal_of g) ++ copied_goals T al swap gs

-- a copy has what the row has, with names swapped, and its bindings in any order. That new names become old ones makes no difference, as none
-- stands; but no row says of its bindings that they are over names that stand
pub record IsMadeOf (T : Table) (n al : Name) (swap : Name → Name) (m : Name) (row : BoxRow) (k : BoxCopy) : Type 0 where
  pub holder : k.holder ≡ (if same_name m n then None else option_map swap row.holder)
  pub frames : k.store.frames ≡ map swap row.store.frames
  pub ports : ports_in T.nodes k.store.ports ≡ map (renamed_port swap) (ports_in T.nodes row.store.ports)
  pub told : AreToldIn (bindings_in T.nodes k.store.bindings) (map (renamed_equation swap) (bindings_in T.nodes row.store.bindings))
  pub all_told : AreToldIn (map (renamed_equation swap) (bindings_in T.nodes row.store.bindings)) (bindings_in T.nodes k.store.bindings)
  pub goals : k.goals ≡ copied_goals T al swap row.goals
  pub body : k.body ≡ map (renamed_atom swap) row.body
  pub shown : k.shown ≡ map (renamed_shown swap) row.shown
  pub collected : k.collected ≡ option_map (renamed_tree swap) row.collected

-- each box that a split copies has one copy, made of its row, and there are no other copies
pub record AreMade (T : Table) (n al : Name) (swap : Name → Name) (copies : List BoxCopy) : Type 0 where
  pub each : (m : Name) → IsCopied T n al m → (row : BoxRow) × (k : BoxCopy) × (T.box_of m ≡ Some row) × (copy_among copies (swap m) ≡ Some k) × IsMadeOf T n al swap m row k
  pub only : (m : Name) (k : BoxCopy) → copy_among copies m ≡ Some k → (i : Name) × IsCopied T n al i × (m ≡ swap i)
  pub once : (m : Name) → times_in m (map (λ (k : BoxCopy). k.name) copies) ≤ 1
