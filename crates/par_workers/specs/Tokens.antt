-- The tokens that are held: with a worker, in a deque, or lying with the run, as those of late places and of copies do.
use Rattle.std.specs.Prelude.{◌≡◌, ℕ, true, List, [], ◌∷◌, Option, Some, None, IfSome, ◌⊎◌}
use Rattle.wake_lists.specs.Open.{Opening, Openings, opening_at}
use Rattle.wake_lists.specs.TokenSets.{is_token_in}
use Rattle.task_pool.specs.Places.{Standing}

-- the token of each open place is held
abbrev pub AreHeld : Openings → List ℕ → Type 0
AreHeld os held = (token : ℕ) (o : Opening) → opening_at token os ≡ Some o → is_token_in token held ≡ true

-- of the tokens that lead to an open place none was let go
abbrev pub KeepsHeld : Openings → List ℕ → List ℕ → Type 0
KeepsHeld os before now = (token : ℕ) (o : Opening) → opening_at token os ≡ Some o → is_token_in token before ≡ true → is_token_in token now ≡ true

-- the token leads to no open place any more, if it did, and the others lead where they led
pub record IsShut (token : ℕ) (before now : Openings) : Type 0 where
  pub shut : opening_at token now ≡ None
  pub others : (t : ℕ) (o : Opening) → opening_at t now ≡ Some o → opening_at t before ≡ Some o

-- the token was put into the deque of one of the hands
abbrev pub IsDealt : ℕ → List Standing → Type 0
IsDealt token [] = ⊥
IsDealt token (h ∷ hs) = (is_token_in token h.pushed ≡ true) ⊎ IsDealt token hs

-- what was taken out, if anything was, was one of these, and the others stay
pub record IsTakenFrom (before : List ℕ) (taken : Option ℕ) (now : List ℕ) : Type 0 where
  pub was : IfSome taken (λ (t : ℕ). is_token_in t before ≡ true)
  pub stay : (t : ℕ) → is_token_in t before ≡ true → (taken ≡ Some t) ⊎ (is_token_in t now ≡ true)

-- the tokens that are held, and those that lie with the run: the late ones, and those of copies
pub record TokensValue : Type 0 where
  pub held : List ℕ
  pub lying : List ℕ

-- a token is in a worker's line, or in another list: that of what lies with the run, or of what was put into the worker's deque
abbrev pub IsAtHand : ℕ → List ℕ → List ℕ → Type 0
IsAtHand token line rest = (is_token_in token line ≡ true) ⊎ (is_token_in token rest ≡ true)

-- those that were so still are
abbrev pub StayAtHand : List ℕ → List ℕ → List ℕ → List ℕ → Type 0
StayAtHand line rest line_now rest_now = (token : ℕ) → IsAtHand token line rest → IsAtHand token line_now rest_now

-- so are those that are held now and weren't before
abbrev pub NewAtHand : List ℕ → List ℕ → List ℕ → List ℕ → Type 0
NewAtHand before now line rest = (token : ℕ) → is_token_in token now ≡ true → (is_token_in token before ≡ true) ⊎ IsAtHand token line rest
