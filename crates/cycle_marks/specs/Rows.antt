-- The edges of a finite graph, and its components.
use Rattle.std.specs.Prelude.{◌≡◌, ◌<◌, ◌≤◌, ℕ, List, length, slice_get, Some, Bool, true, false}

-- an edge from node i to node j: j stands in row i
pub record IsEdge (rows : List (List ℕ)) (i j : ℕ) : Type 0 where
  pub row : List ℕ
  pub place : ℕ
  pub of : slice_get rows i ≡ Some row
  pub to : slice_get row place ≡ Some j

-- at least one edge leads from a node to another
pub data Leads (rows : List (List ℕ)) : ℕ → ℕ → Type 0 where
  by_edge : {i j : ℕ} → IsEdge rows i j → Leads rows i j
  onward : {i j k : ℕ} → Leads rows i j → IsEdge rows j k → Leads rows i k

-- a rank for each node: no edge leads up, each edge of a node that isn't cyclic leads down, and from a cyclic node edges lead back to it
pub record AreRanked (rows : List (List ℕ)) (rank : ℕ → ℕ) (cyclic : ℕ → Bool) : Type 0 where
  pub down : (i j : ℕ) → IsEdge rows i j → rank j ≤ rank i
  pub strict : (i j : ℕ) → cyclic i ≡ false → IsEdge rows i j → rank j < rank i
  pub back : (i : ℕ) → i < length rows → cyclic i ≡ true → Leads rows i i

-- the rows have nodes alone
abbrev pub AreWithin : List (List ℕ) → Type 0
AreWithin rows = (i j : ℕ) → IsEdge rows i j → j < length rows
