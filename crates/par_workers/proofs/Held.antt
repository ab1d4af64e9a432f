-- Tokens that are held, when one comes or goes.
use Rattle.std.proofs.Common.{◌≡◌, ℕ, suc, ◌+◌, ◌<◌, ◌==◌, Bool, true, false, List, [], ◌∷◌, length, slice_index_or, refl, sym, ap, subst, ◌∙◌, inl, inr, arith}
use Rattle.std.specs.Prelude.{◌||◌}
use Rattle.std.proofs.lemmas.Bool.{eqb-true}
use Rattle.std.proofs.lemmas.Bool.Decides.{nat_tests}
use Rattle.wake_lists.specs.TokenSets.{is_token_in, Adds}
use Rattle.scheduler.specs.Openings.{IsNumberIn}

pub or_true : (b : Bool) → (b || true) ≡ true
or_true true = refl
or_true false = refl

same : (n : ℕ) → (n == n) ≡ true
same n = grind (arith, nat_tests)

less : (t n : ℕ) → (t == n) ≡ false → t < n + 1 → t < n
less t n e h = grind (arith, nat_tests)

-- one more is held
module _ (before now : List ℕ) (n : ℕ) (adds : Adds before now n) where
  pub keeps_added : (t : ℕ) → is_token_in t before ≡ true → is_token_in t now ≡ true
  keeps_added t e = adds t ∙ ap (λ (b : Bool). b || (t == n)) e

  pub has_added : is_token_in n now ≡ true
  has_added = adds n ∙ ap (λ (b : Bool). is_token_in n before || b) (same n) ∙ or_true (is_token_in n before)

-- what holds below a number, and of it, holds below the next one
pub below_next : (P : ℕ → Type 0) (n : ℕ) → ((k : ℕ) → k < n → P k) → P n → (k : ℕ) → k < n + 1 → P k
below_next P n below here k h = on (k == n) refl
  where
    on : (b : Bool) → (k == n) ≡ b → P k
    on true e = subst P (sym (eqb-true k n e)) here
    on false e = below k (less k n e h)

-- of a list of tokens one more is held
pub next_held : (ts : List ℕ) (n : ℕ) (before now : List ℕ) → ((t : ℕ) → is_token_in t before ≡ true → is_token_in t now ≡ true) → is_token_in (slice_index_or ts n 0) now ≡ true
    → ((i : ℕ) → i < n → is_token_in (slice_index_or ts i 0) before ≡ true) → (i : ℕ) → i < n + 1 → is_token_in (slice_index_or ts i 0) now ≡ true
next_held ts n before now keeps has all = below_next (λ (i : ℕ). is_token_in (slice_index_or ts i 0) now ≡ true) n (λ i h. keeps (slice_index_or ts i 0) (all i h)) has

-- and so all of them
pub all_held : (ts held : List ℕ) → ((i : ℕ) → i < length ts → is_token_in (slice_index_or ts i 0) held ≡ true) → (t : ℕ) → IsNumberIn t ts → is_token_in t held ≡ true
all_held [] held all t i = absurd i
all_held (s ∷ ts) held all t (inl e) = subst (λ (k : ℕ). is_token_in k held ≡ true) (sym e) (all 0 (omega arith))
all_held (s ∷ ts) held all t (inr i) = all_held ts held (λ k h. all (suc k) (omega (arith, h))) t i
