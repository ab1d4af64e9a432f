-- Classes of nodes in the order of their first visit.
use Rattle.std.specs.Prelude.{◌≡◌, ◌⊎◌, ℕ, List, [], ◌∷◌, ◌++◌, length, map, get_or, slice_get, Some, reverse}
use Rattle.tree_classes.specs.Numbers.{number_in}
use Rattle.tree_models.specs.Tables.{places_of}
use Rattle.tree_models.specs.declared.cell.Cell.{Cell}
use Rattle.tree_models.specs.Solutions.{Visits}

abbrev pub IsOne : ℕ → List ℕ → Type 0
IsOne c [] = ⊥
IsOne c (d ∷ ds) = (c ≡ d) ⊎ IsOne c ds

-- a node's class, by its first node, and the nodes of the arguments of a class
abbrev pub class_of : List ℕ → ℕ → ℕ
class_of firsts i = get_or firsts i 0

abbrev pub row_of : List (List ℕ) → ℕ → List ℕ
row_of rows c = get_or rows c []

-- from these classes, visited in order, and these nodes on, depth first and left to right, all are visited in this order
pub data VisitsNodes (rows : List (List ℕ)) (firsts : List ℕ) : List ℕ → List ℕ → List ℕ → Type 0 where
  all_visited : {seen : List ℕ} → VisitsNodes rows firsts seen [] seen
  visited_before : {seen order : List ℕ} {i : ℕ} {is : List ℕ} → IsOne (class_of firsts i) seen → VisitsNodes rows firsts seen is order → VisitsNodes rows firsts seen (i ∷ is) order
  new_class : {seen order : List ℕ} {i : ℕ} {is : List ℕ} → (IsOne (class_of firsts i) seen → ⊥)
      → VisitsNodes rows firsts (seen ++ class_of firsts i ∷ []) (row_of rows (class_of firsts i) ++ is) order → VisitsNodes rows firsts seen (i ∷ is) order

-- one node of an agenda, which is kept from its end, is visited
pub data IsStep (rows : List (List ℕ)) (firsts : List ℕ) (node : ℕ) (seen agenda : List ℕ) : List ℕ → List ℕ → Type 0 where
  again : {order left : List ℕ} → IsOne (class_of firsts node) seen → order ≡ seen → left ≡ agenda → IsStep rows firsts node seen agenda order left
  newly : {order left : List ℕ} → (IsOne (class_of firsts node) seen → ⊥) → order ≡ seen ++ class_of firsts node ∷ [] → left ≡ agenda ++ reverse (row_of rows (class_of firsts node))
      → IsStep rows firsts node seen agenda order left

-- the place of a node's class in an order
abbrev pub place_by : List ℕ → List ℕ → ℕ → ℕ
place_by firsts order i = number_in order (class_of firsts i)

-- cells of the classes in that order, with the places of their arguments
pub record AreCellsBy (rows : List (List ℕ)) (firsts order : List ℕ) (cells : List Cell) : Type 0 where
  pub each : (p c : ℕ) → slice_get order p ≡ Some c → (k : Cell) × (slice_get cells p ≡ Some k) × (places_of k ≡ map (place_by firsts order) (row_of rows c))

-- are numbered by first visit
abbrev pub NumberedLaw : Type 0
NumberedLaw = (rows : List (List ℕ)) (firsts starts order : List ℕ) (cells : List Cell) → VisitsNodes rows firsts [] starts order → AreCellsBy rows firsts order cells
    → Visits cells 0 (map (place_by firsts order) starts) (length order)

-- the order is one
abbrev pub OneOrderLaw : Type 0
OneOrderLaw = (rows : List (List ℕ)) (firsts starts one another : List ℕ) → VisitsNodes rows firsts [] starts one → VisitsNodes rows firsts [] starts another → one ≡ another
