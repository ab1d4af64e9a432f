-- Tokens that lead a worker to a place that it looks at.
use Rattle.std.specs.Prelude.{◌≡◌, ℕ, false, List, Option, Some, None, ◌⊎◌}
use Rattle.wake_lists.specs.TokenSets.{is_token_in}
use Rattle.par_workers.specs.declared.looking.Look.{Look}
use Rattle.par_workers.specs.Tokens.{IsAtHand}

-- the token led to what was seen
abbrev pub IsTokenOf : ℕ → Option Look → Type 0
IsTokenOf token None = ⊥
IsTokenOf token (Some look) = look.token ≡ token

-- a token is at hand, or was let go
abbrev pub IsAtHandOrGone : ℕ → List ℕ → List ℕ → List ℕ → Type 0
IsAtHandOrGone token line late held = IsAtHand token line late ⊎ (is_token_in token held ≡ false)

-- a token led to what was seen, or is at hand, or was let go
abbrev pub IsNotLost : ℕ → Option Look → List ℕ → List ℕ → List ℕ → Type 0
IsNotLost token found line late held = IsTokenOf token found ⊎ IsAtHandOrGone token line late held
