-- Tokens, in no order.
use Rattle.std.specs.Prelude.{◌≡◌, ℕ, ◌≤◌, List, [], Option, None, Some, Bool, true, ◌&&◌, ◌||◌, ◌==◌, not}
use Rattle.std.specs.List.{list_any}
use lib.Dec.{eqb}

abbrev pub is_token_in : ℕ → List ℕ → Bool
is_token_in t ts = list_any (eqb t) ts

-- the least of the tokens
abbrev pub IsLeastIn : List ℕ → Option ℕ → Type 0
IsLeastIn ts None = ts ≡ []
IsLeastIn ts (Some t) = (is_token_in t ts ≡ true) × ((s : ℕ) → is_token_in s ts ≡ true → t ≤ s)

-- one of the tokens that isn't this one
abbrev pub IsOtherIn : List ℕ → ℕ → Option ℕ → Type 0
IsOtherIn ts t None = (s : ℕ) → is_token_in s ts ≡ true → s ≡ t
IsOtherIn ts t (Some s) = (is_token_in s ts ≡ true) × (s ≡ t → ⊥)

-- one token comes to the others
abbrev pub Adds : List ℕ → List ℕ → ℕ → Type 0
Adds old new t = (s : ℕ) → is_token_in s new ≡ (is_token_in s old || (s == t))

-- one token goes, and the others stay
abbrev pub Drops : List ℕ → List ℕ → ℕ → Type 0
Drops old new t = (s : ℕ) → is_token_in s new ≡ (is_token_in s old && not (s == t))
