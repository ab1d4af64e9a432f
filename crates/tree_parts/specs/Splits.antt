-- How names of blocks are split.
use Rattle.std.specs.Prelude.{◌≡◌, ◌≢◌, ◌<◌, ◌⊎◌, ℕ, List, [], ◌∷◌, length, get_or}
use Rattle.tree_parts.specs.Firsts.{at_node}
use Rattle.tree_parts.specs.Lists.{Has, list_at, IsNumber}

-- one of two nodes is in the list
abbrev pub IsOneIn : List ℕ → ℕ → ℕ → Type 0
IsOneIn nodes i j = (Has nodes i × (Has nodes j → ⊥)) ⊎ ((Has nodes i → ⊥) × Has nodes j)

-- nodes get different names only where they had, or where one of them is in the list
pub record AreSplit (old new : List ℕ) (nodes : List ℕ) : Type 0 where
  pub size : length new ≡ length old
  pub apart : (i j : ℕ) → i < length old → j < length old → at_node new i ≢ at_node new j → (at_node old i ≢ at_node old j) ⊎ IsOneIn nodes i j

-- the nodes of the list got this name, and no others
pub record AreRenamed (old new : List ℕ) (nodes : List ℕ) (name : ℕ) : Type 0 where
  pub size : length new ≡ length old
  pub listed : (i : ℕ) → i < length old → Has nodes i → at_node new i ≡ name
  pub others : (i : ℕ) → (Has nodes i → ⊥) → at_node new i ≡ at_node old i

-- each name lists at least the nodes that have it
abbrev pub AreListed : List ℕ → List (List ℕ) → Type 0
AreListed names members = (i : ℕ) → i < length names → Has (list_at members (at_node names i)) i

-- what is listed for the nodes of the list that have this name
pub record AreHits (names : List ℕ) (into : List (List ℕ)) (name : ℕ) (nodes hits : List ℕ) : Type 0 where
  pub are : (e : ℕ) → Has hits e → (p : ℕ) × (p < length names) × (at_node names p ≡ name) × Has (list_at into p) e
  pub whole : (p e : ℕ) → Has nodes p → p < length names → at_node names p ≡ name → Has (list_at into p) e → Has hits e

-- the key of a node is what it starts in, and its name
pub record ArePairs (start names : List ℕ) (keys : List (List ℕ)) (n : ℕ) : Type 0 where
  pub size : length keys ≡ n
  pub key : (i : ℕ) → i < n → get_or keys i [] ≡ at_node start i ∷ at_node names i ∷ []

-- a node has at some place an entry of the block of this name, and another has none of that block at that place
pub record IsToldByBlock (nodes places nexts names : List ℕ) (name i j : ℕ) : Type 0 where
  pub at : ℕ
  pub number : ℕ
  pub next : ℕ
  pub has : IsNumber nodes places nexts i at next number
  pub within : next < length names
  pub named : at_node names next ≡ name
  pub others : (q e : ℕ) → IsNumber nodes places nexts j at q e → q < length names → at_node names q ≢ name

-- nodes get different names only where they had, or where the block of this name tells them apart
pub record AreSplitByBlock (nodes places nexts : List ℕ) (name : ℕ) (old new : List ℕ) : Type 0 where
  pub size : length new ≡ length old
  pub apart : (i j : ℕ) → i < length old → j < length old → at_node new i ≢ at_node new j
      → (at_node old i ≢ at_node old j) ⊎ (IsToldByBlock nodes places nexts old name i j ⊎ IsToldByBlock nodes places nexts old name j i)
