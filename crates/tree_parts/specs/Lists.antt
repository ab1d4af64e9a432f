-- Lists of places by numbers, and the entries of rows.
use Rattle.std.specs.Prelude.{◌≡◌, ◌<◌, ◌⊎◌, ℕ, List, [], ◌∷◌, length, get_or}
use Rattle.tree_parts.specs.Firsts.{at_node}
use Rattle.tree_parts.specs.Parts.{IsEntry}

-- the number is in the list
abbrev pub Has : List ℕ → ℕ → Type 0
Has [] i = ⊥
Has (x ∷ xs) i = (x ≡ i) ⊎ Has xs i

-- the list that lists have for a number
abbrev pub list_at : List (List ℕ) → ℕ → List ℕ
list_at lists g = get_or lists g []

-- for each number the places before n that have it
pub record ArePlaces (numbers : List ℕ) (lists : List (List ℕ)) (n : ℕ) : Type 0 where
  pub of : (g t : ℕ) → Has (list_at lists g) t → (t < n) × (at_node numbers t ≡ g)
  pub there : (t : ℕ) → t < n → Has (list_at lists (at_node numbers t)) t

-- groups of places: with each place a group has all that have the same key
pub record AreGroups (keys : List ℕ) (groups : List (List ℕ)) : Type 0 where
  pub within : (g t : ℕ) → Has (list_at groups g) t → t < length keys
  pub whole : (g t u : ℕ) → Has (list_at groups g) t → u < length keys → at_node keys t ≡ at_node keys u → Has (list_at groups g) u

-- an entry of the rows has this number
pub record IsNumber (nodes places nexts : List ℕ) (i k p e : ℕ) : Type 0 where
  pub within : e < length nodes
  pub node : at_node nodes e ≡ i
  pub place : at_node places e ≡ k
  pub next : at_node nexts e ≡ p

-- the entries of the rows before n, and of row n those before place m
pub record AreEntries (rows : List (List ℕ)) (nodes places nexts : List ℕ) (n m : ℕ) : Type 0 where
  pub places_size : length places ≡ length nodes
  pub nexts_size : length nexts ≡ length nodes
  pub listed : (i k p : ℕ) → IsEntry rows i k p → (i < n) ⊎ ((i ≡ n) × (k < m)) → (e : ℕ) × IsNumber nodes places nexts i k p e
  pub are : (e : ℕ) → e < length nodes → IsEntry rows (at_node nodes e) (at_node places e) (at_node nexts e)
