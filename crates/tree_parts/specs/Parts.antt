-- Partitions of the nodes of a graph.
use Rattle.std.specs.Prelude.{◌≡◌, ◌≢◌, ◌≤◌, ◌<◌, ℕ, List, [], ◌∷◌, length, map, get_or, slice_get, Some}
use Rattle.tree_parts.specs.Firsts.{at_node}

-- node j stands at this place in the row of node i
pub record IsEntry (rows : List (List ℕ)) (i place j : ℕ) : Type 0 where
  pub row : List ℕ
  pub of : slice_get rows i ≡ Some row
  pub to : slice_get row place ≡ Some j

-- the rows have nodes alone
abbrev pub AreWithin : List (List ℕ) → Type 0
AreWithin rows = (i k j : ℕ) → IsEntry rows i k j → j < length rows

-- nodes of one block have rows of one length
abbrev pub AreEven : List (List ℕ) → List ℕ → Type 0
AreEven rows blocks = (i j : ℕ) (r s : List ℕ) → slice_get rows i ≡ Some r → slice_get rows j ≡ Some s → at_node blocks i ≡ at_node blocks j → length r ≡ length s

-- each node's block is called by its first node
pub record AreNamed (blocks : List ℕ) : Type 0 where
  pub before : (i : ℕ) → i < length blocks → at_node blocks i ≤ i
  pub itself : (i : ℕ) → i < length blocks → at_node blocks (at_node blocks i) ≡ at_node blocks i

-- two nodes differ: they start in different blocks, or what stands at one place of their rows differs
pub data Differ (rows : List (List ℕ)) (start : List ℕ) : ℕ → ℕ → Type 0 where
  by_start : {i j : ℕ} → at_node start i ≢ at_node start j → Differ rows start i j
  by_entry : {i j p q : ℕ} (k : ℕ) → IsEntry rows i k p → IsEntry rows j k q → Differ rows start p q → Differ rows start i j

-- blocks of which none joins what starts apart, and of which two differ
pub record IsPartition (rows : List (List ℕ)) (start blocks : List ℕ) : Type 0 where
  pub size : length blocks ≡ length rows
  pub named : AreNamed blocks
  pub finer : (i j : ℕ) → i < length rows → j < length rows → at_node blocks i ≡ at_node blocks j → at_node start i ≡ at_node start j
  pub differ : (i j : ℕ) → i < length rows → j < length rows → at_node blocks i ≢ at_node blocks j → Differ rows start i j

-- the coarsest partition that refines the start and whose blocks agree in the blocks of their rows
pub record IsRefined (rows : List (List ℕ)) (start blocks : List ℕ) : Type 0 where
  pub partition : IsPartition rows start blocks
  pub agree : (i j k p q : ℕ) → at_node blocks i ≡ at_node blocks j → IsEntry rows i k p → IsEntry rows j k q → at_node blocks p ≡ at_node blocks q

-- a node's block and those of its row
abbrev pub block_key : List ℕ → ℕ → List ℕ → List ℕ
block_key blocks i row = at_node blocks i ∷ map (at_node blocks) row

-- the keys of the nodes before this one
pub record AreKeysBefore (rows : List (List ℕ)) (blocks : List ℕ) (keys : List (List ℕ)) (n : ℕ) : Type 0 where
  pub size : length keys ≡ n
  pub key : (i : ℕ) → i < n → get_or keys i [] ≡ block_key blocks i (get_or rows i [])
