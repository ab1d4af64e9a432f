-- The boxes in which tokens stand.
use Rattle.std.specs.Prelude.{◌≡◌, ℕ, ◌+◌, List, [], ◌∷◌, length, Option, None, Some, Bool, false, slice_get, map}
use Rattle.std.specs.List.{list_any}
use Rattle.std.specs.Map.{lookup}
use Rattle.smallvec.specs.SmallVec.{SmallVec}
use Rattle.akl_terms.specs.declared.name.Name.{Name}
use Rattle.akl_terms.specs.Names.{same_name}
use Rattle.wake_lists.specs.TokenSets.{is_token_in}

abbrev pub is_in : Name → List Name → Bool
is_in n ns = list_any (same_name n) ns

-- the tokens by the boxes in which they stand
abbrev pub InBoxes : Type 0
InBoxes = List (Name × List ℕ)

abbrev pub is_among : ℕ → Option (List ℕ) → Bool
is_among t None = false
is_among t (Some ts) = is_token_in t ts

-- a token stands in a box
abbrev pub stands : InBoxes → ℕ → Name → Bool
stands ss t n = is_among t (lookup (same_name n) ss)

-- the names of each list
abbrev pub names_in : List (SmallVec Name) → List (List Name)
names_in bs = map (λ (b : SmallVec Name). b.items) bs

abbrev pub or_none : Option (List Name) → List Name
or_none None = []
or_none (Some ns) = ns

-- the boxes in which a token stands, by the boxes of each token, from the first on
abbrev pub boxes_at : ℕ → List (List Name) → List Name
boxes_at t bs = or_none (slice_get bs t)

-- how many names there are in the lists
abbrev pub how_many : List (List Name) → ℕ
how_many [] = 0
how_many (ns ∷ bs) = length ns + how_many bs

-- the tokens of each box are those that have it among theirs
abbrev pub AreStanding : InBoxes → List (List Name) → Type 0
AreStanding ss bs = (t : ℕ) (n : Name) → stands ss t n ≡ is_in n (boxes_at t bs)
