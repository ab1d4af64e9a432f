-- Numbers by their first digit and the binary digits that it leaves.
use Rattle.std.proofs.Common.{◌≡◌, ℕ, ◌+◌, ◌-◌, ◌*◌, ◌/◌, ◌%◌, ◌^◌, ◌<◌, ◌≤◌, Bool, true, false, refl, sym, ap, ◌∙◌, arith}
use Rattle.std.proofs.lemmas.Bool.{eqb-true, eqb-false, eq-eqb, ne_eqb}
use Rattle.std.proofs.lemmas.Nat.{pow_pos, pow-add, shr_split, shr_high, mod_low, mod_below, div_below, le-div, mul-le}
use Rattle.std.specs.Prelude.{◌&&◌}
use lib.Dec.{eqb}

-- two numbers are one where both parts are
both_parts : (n k s : ℕ) (a b : Bool) → eqb (n / 2 ^ s) (k / 2 ^ s) ≡ a → eqb (n % 2 ^ s) (k % 2 ^ s) ≡ b → (a && b) ≡ eqb n k
both_parts n k s true true e f =
    let first = eqb-true (n / 2 ^ s) (k / 2 ^ s) e in
    let last = eqb-true (n % 2 ^ s) (k % 2 ^ s) f in
    sym (eq-eqb n k (sym (shr_split n s) ∙ (λ i. first i * 2 ^ s + last i) ∙ shr_split k s))
both_parts n k s true false e f = sym (ne_eqb n k (λ is. eqb-false (n % 2 ^ s) (k % 2 ^ s) f (ap (λ (m : ℕ). m % 2 ^ s) is)))
both_parts n k s false b e f = sym (ne_eqb n k (λ is. eqb-false (n / 2 ^ s) (k / 2 ^ s) e (ap (λ (m : ℕ). m / 2 ^ s) is)))

pub same_digits : (n k s : ℕ) → (eqb (n / 2 ^ s) (k / 2 ^ s) && eqb (n % 2 ^ s) (k % 2 ^ s)) ≡ eqb n k
same_digits n k s = both_parts n k s _ _ refl refl

-- a power as so many times a lower one
pub powers : (w s : ℕ) → s ≤ w → 2 ^ w ≡ 2 ^ (w - s) * 2 ^ s
powers w s h = let sum : w ≡ (w - s) + s = omega arith in ap (λ (m : ℕ). 2 ^ m) sum ∙ pow-add 2 (w - s) s

-- the first digit of a number that has its place
pub first_below : (n w s : ℕ) → s ≤ w → n < 2 ^ w → n / 2 ^ s < 2 ^ (w - s)
first_below n w s h below = div_below n (2 ^ s) (2 ^ (w - s)) (pow_pos s) (omega (arith, powers w s h))

pub last_below : (n s m : ℕ) → m ≡ n % 2 ^ s → m < 2 ^ s
last_below n s m is = let below = mod_below n (2 ^ s) (pow_pos s) in omega arith

-- that of one that is beyond so many children
pub first_beyond : (n w s m : ℕ) → s ≤ w → m ≤ 2 ^ (w - s) → 2 ^ w ≤ n → m ≤ n / 2 ^ s
first_beyond n w s m h most beyond = let there : 2 ^ (w - s) ≤ n / 2 ^ s = le-div (2 ^ (w - s)) n (2 ^ s) (pow_pos s) (omega (arith, powers w s h)) in omega arith

-- as many children as there are first digits reach no further
pub reach : (w s m : ℕ) → s ≤ w → m ≤ 2 ^ (w - s) → m * 2 ^ s ≤ 2 ^ w
reach w s m h most = let whole = powers w s h in let grown = mul-le m (2 ^ s) (2 ^ (w - s)) (2 ^ s) most (omega arith) in omega arith

module _ (i s n : ℕ) (from : i * 2 ^ s ≤ n) (to : n < i * 2 ^ s + 2 ^ s) where
  parts : n ≡ i * 2 ^ s + (n - i * 2 ^ s)
  parts = omega arith

  -- the digits of the numbers of one child
  pub digit_at : n / 2 ^ s ≡ i
  digit_at = ap (λ (m : ℕ). m / 2 ^ s) parts ∙ shr_high i s (n - i * 2 ^ s) (omega arith)

  pub rest_at : n % 2 ^ s ≡ n - i * 2 ^ s
  rest_at = ap (λ (m : ℕ). m % 2 ^ s) parts ∙ mod_low i s (n - i * 2 ^ s) (omega arith)
