-- All that stands in a box and inside it.
use Rattle.std.specs.Prelude.{◌≡◌, ℕ, true, nat_lt, if◌then◌else◌, Bool, ◌||◌, ◌&&◌, ◌==◌, List, [], ◌∷◌, length, map, Option, Some, None, option_map, ◌⊎◌}
use Rattle.std.specs.List.{AllByRecursion}
use Rattle.std.specs.Map.{lookup}
use Rattle.akl_terms.specs.declared.name.Name.{Name}
use Rattle.akl_terms.specs.declared.name.Place.{Place}
use Rattle.akl_terms.specs.Names.{same_name, is_before}
use Rattle.akl_model.specs.Config.{Operator}
use Rattle.akl_model.specs.declared.item.Item.{Item}
use Rattle.akl_model.specs.declared.label.Label.{Label}
use Rattle.akl_model.specs.Config.{IsIn, or_else}
use Rattle.akl_terms.specs.Template.{tree}
use Rattle.akl_model.specs.Changes.{Shape, of_choice}
use Rattle.local_store.specs.Chained.{IsSolvedChain}
use Rattle.table_laws.specs.Rows.{BoxRow, GoalRow, Table, stores_along}
use Rattle.table_laws.specs.Inside.{IsInside, IsGoalInside}
use Rattle.table_laws.specs.Walks.{ListsInside}
use Rattle.box_tree.specs.declared.entries.Held.{Held}
use Rattle.box_tree.specs.declared.entries.GoalEntry.{GoalEntry}
use Rattle.box_tree.specs.declared.inside.InnerGoal.{InnerGoal}
use Rattle.box_tree.specs.declared.inside.InnerBox.{InnerBox}
use Rattle.box_tree.specs.declared.inside.Inside.{Inside}
use Rattle.box_tree.specs.Tables.{TableValue, table_of, shape_held, goal_atom, shown_tree, goals_in, is_empty}
use Rattle.box_tree.specs.Paths.{IsPath}
use Rattle.box_tree.specs.Views.{ViewValue, IsViewOf}

-- a goal has this content
abbrev pub IsInnerGoal : TableValue → InnerGoal → Type 0
IsInnerGoal t g = option_map (λ (r : GoalRow). r.shape) ((table_of t).goal_of g.name) ≡ Some (shape_held t.program.templates.nodes g.held)

-- the stores down to a box are solved together
abbrev pub IsSolvedDownTo : TableValue → Name → Type 0
IsSolvedDownTo t n = (path : List Name) → IsPath (table_of t) n path → IsSolvedChain t.program.templates.nodes (stores_along (table_of t) path)

-- a box has this holder, store, goals, body, shown terms and collected term; and the stores down to it are solved, where it says so
pub record IsInnerBox (t : TableValue) (b : InnerBox) : Type 0 where
  pub row : BoxRow
  pub there : (table_of t).box_of b.name ≡ Some row
  pub holder : b.holder ≡ row.holder
  pub store : b.store ≡ row.store
  pub solved : b.solved ≡ true → IsSolvedDownTo t b.name
  pub goals : map (λ (g : InnerGoal). g.name) b.goals.items ≡ row.goals
  pub held : AllByRecursion (IsInnerGoal t) b.goals.items
  pub body : map (goal_atom t.program.templates.nodes) b.body.items ≡ row.body
  pub shown : map (shown_tree t.program.templates.nodes) b.shown.items ≡ row.shown
  pub collected : option_map (tree t.program.templates.nodes) b.collected ≡ row.collected

-- a place in a box or inside it, or the box itself
abbrev pub IsPlaceInside : Table → Name → Place → Type 0
IsPlaceInside T n (Place.Box m) = IsInside T n m
IsPlaceInside T n (Place.Goal g) = IsGoalInside T n g

-- an item of a box, or of what stands inside it
abbrev pub IsItemInside : Table → Name → Item → Type 0
IsItemInside T n Item.Roots = ⊥
IsItemInside T n (Item.Store m) = IsInside T n m
IsItemInside T n (Item.Goals m) = IsInside T n m
IsItemInside T n (Item.Goal g) = IsGoalInside T n g
IsItemInside T n (Item.Binding x) = ⊥

-- the constraint or the set of goals of one of these boxes
abbrev pub IsOfBoxes : List Name → Item → Type 0
IsOfBoxes ns i = (m : Name) × IsIn m ns × ((i ≡ Item.Store m) ⊎ (i ≡ Item.Goals m))

-- a view by this worker of such a place
pub record IsViewInside (t : TableValue) (journal : List Label) (n : Name) (worker : ℕ) (v : ViewValue) : Type 0 where
  pub table : v.table ≡ t
  pub labels : v.journal ≡ journal
  pub seer : v.worker ≡ worker
  pub inside : IsPlaceInside (table_of t) n v.place
  pub seen : IsViewOf v

-- one of the views is of this place
abbrev pub HasView : List ViewValue → Place → Type 0
HasView [] place = ⊥
HasView (v ∷ vs) place = (v.place ≡ place) ⊎ HasView vs place

-- the box and all boxes inside it, each once
pub record AreBoxesInside (t : TableValue) (n : Name) (bs : List InnerBox) : Type 0 where
  pub listed : ListsInside (table_of t) n (map (λ (b : InnerBox). b.name) bs)
  pub boxes : AllByRecursion (IsInnerBox t) bs

-- these, and a view of each place, and of no others
pub record IsInsideOf (t : TableValue) (journal : List Label) (n : Name) (worker : ℕ) (i : Inside) : Type 0 where
  pub boxes : AreBoxesInside t n i.boxes.items
  pub views : AllByRecursion (IsViewInside t journal n worker) i.views.items
  pub each : (place : Place) → IsPlaceInside (table_of t) n place → HasView i.views.items place

-- the first solved one of these boxes
abbrev pub first_solved_in : Table → List Name → Option Name
first_solved_in T [] = None
first_solved_in T (n ∷ ns) = if is_empty (goals_in (T.box_of n)) then Some n else first_solved_in T ns

-- the alternative at which a box could be split by this choice: the first solved one of a `?` choice that has others
abbrev pub candidate_of : Table → Shape → Option Name
candidate_of T (of_choice Operator.nondeterminate alternatives) = if nat_lt 1 (length alternatives) then first_solved_in T alternatives else None
candidate_of T s = None

abbrev pub candidate_at : Table → Option GoalRow → Option Name
candidate_at T None = None
candidate_at T (Some r) = candidate_of T r.shape

-- by the first of these goals that is such a choice
abbrev pub candidate_among : Table → List Name → Option Name
candidate_among T [] = None
candidate_among T (g ∷ gs) = or_else (candidate_at T (T.goal_of g)) (candidate_among T gs)

-- and by the goals directly in a box
abbrev pub candidate_in : Table → Name → Option Name
candidate_in T n = candidate_among T (goals_in (T.box_of n))

-- an alternative at which a box could be split, by some goal directly in it; none where no goal is such a choice
abbrev pub IsCandidateOf : Table → Name → Option Name → Type 0
IsCandidateOf T n None = candidate_in T n ≡ None
IsCandidateOf T n (Some a) = (g : Name) × IsIn g (goals_in (T.box_of n)) × (candidate_at T (T.goal_of g) ≡ Some a)

-- the number of the label that made the goal of a choice, or the goal of which it is a copy, as it is kept; 0 of what is no choice
abbrev pub since_held : Held → ℕ
since_held (Held.Atom g) = 0
since_held (Held.Choice op alternatives since) = since

abbrev pub since_in : Option GoalEntry → ℕ
since_in None = 0
since_in (Some e) = since_held e.held

abbrev pub since_of : TableValue → Name → ℕ
since_of t g = since_in (lookup (same_name g) t.goals)

-- a goal was made before another one, or by the same label, and it is the first of them by name
abbrev pub is_older : TableValue → Name → Name → Bool
is_older t g h = nat_lt (since_of t g) (since_of t h) || ((since_of t g == since_of t h) && is_before g h)
