-- Tokens that are put into the deques of hands.
use Rattle.std.proofs.Common.{◌≡◌, ℕ, zero, suc, ◌<◌, Bool, true, false, List, [], ◌∷◌, ◌++◌, length, set, get_or, refl, sym, ap, ◌∙◌, ◌⊎◌, inl, inr, arith}
use Rattle.std.proofs.lemmas.Bool.Decides.{nat_tests}
use Rattle.std.proofs.lemmas.List.Folds.{list_any-append}
use Rattle.std.specs.Prelude.{◌||◌}
use Rattle.wake_lists.specs.TokenSets.{is_token_in}
use Rattle.task_pool.specs.Places.{Standing}
use Rattle.wake_lists.proofs.Keys.{token_equal}
use Rattle.par_workers.specs.Tokens.{IsDealt}
use Rattle.par_workers.proofs.Held.{or_true}
use lib.Dec.{eqb}

pub token_last : (ts : List ℕ) (t : ℕ) → is_token_in t (ts ++ t ∷ []) ≡ true
token_last [] t = let e : eqb t t ≡ true = grind (arith, nat_tests) in ap (λ (b : Bool). b || false) e
token_last (s ∷ ts) t = ap (λ (b : Bool). eqb t s || b) (token_last ts t) ∙ or_true (eqb t s)

pub token_still : (ts : List ℕ) (t s : ℕ) → is_token_in s ts ≡ true → is_token_in s (ts ++ t ∷ []) ≡ true
token_still ts t s e = list_any-append (eqb s) ts (t ∷ []) ∙ ap (λ (b : Bool). b || is_token_in s (t ∷ [])) e

pub token_before : (ts : List ℕ) (t s : ℕ) → is_token_in s (ts ++ t ∷ []) ≡ true → (is_token_in s ts ≡ true) ⊎ (s ≡ t)
token_before ts t s e = on (is_token_in s ts) refl (eqb s t) refl (sym (list_any-append (eqb s) ts (t ∷ [])) ∙ e)
  where
    on : (a : Bool) → is_token_in s ts ≡ a → (b : Bool) → eqb s t ≡ b → (is_token_in s ts || (eqb s t || false)) ≡ true → (is_token_in s ts ≡ true) ⊎ (s ≡ t)
    on true f b g h = inl f
    on false f true g h = inr (token_equal s t g)
    on false f false g h = absurd (let no : false ≡ true = (λ i. sym f i || (sym g i || false)) ∙ h in cc)

-- a hand has pushed more than it had
pub still_dealt : (hs : List Standing) (k : ℕ) (d h : Standing) → k < length hs → ((t : ℕ) → is_token_in t (get_or hs k d).pushed ≡ true → is_token_in t h.pushed ≡ true)
    → (t : ℕ) → IsDealt t hs → IsDealt t (set hs k h)
still_dealt [] k d h less keeps t dealt = absurd dealt
still_dealt (x ∷ xs) zero d h less keeps t (inl e) = inl (keeps t e)
still_dealt (x ∷ xs) zero d h less keeps t (inr r) = inr r
still_dealt (x ∷ xs) (suc k) d h less keeps t (inl e) = inl e
still_dealt (x ∷ xs) (suc k) d h less keeps t (inr r) = inr (still_dealt xs k d h (omega arith) keeps t r)

-- and so a token that it has pushed is dealt out
pub now_dealt : (hs : List Standing) (k : ℕ) (h : Standing) (t : ℕ) → k < length hs → is_token_in t h.pushed ≡ true → IsDealt t (set hs k h)
now_dealt [] k h t less e = absurd (omega arith)
now_dealt (x ∷ xs) zero h t less e = inl e
now_dealt (x ∷ xs) (suc k) h t less e = inr (now_dealt xs k h t (omega arith) e)
