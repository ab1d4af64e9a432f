-- The rest of the division that rounds down.
use Rattle.std.proofs.Common.{◌≡◌, ℕ, zero, suc, ℤ, pos, negsuc, ◌+ℤ◌, ◌-ℤ◌, ◌*ℤ◌, ◌<ℤ◌, ◌+◌, ◌*◌, ◌/◌, ◌%◌, ◌<◌, ◌^◌, Bool, true, false, cond, ltb, Some, None, refl, mul_comm, sym, ◌∙◌, ap, arith, ◌⊎◌, inl, inr, FitsSigned}
use Rattle.std.proofs.lemmas.Int.{ints}
use Rattle.std.proofs.lemmas.Nat.{div-add-mod', mod_below, mod-mul-add}
use Rattle.std.proofs.lemmas.Bool.Decides.{nat_tests}
use Rattle.std.specs.Int.{w128, int_rem_euclid}
use Rattle.akl_terms.specs.Arithmetic.{floor_of, in_range, where_in_range, calculated, modulus}

pub in_range-fits : (z : ℤ) → FitsSigned w128 z → where_in_range z ≡ Some z
in_range-fits (pos n) f =
    let h : n < 2 ^ 127 = f.sfits in
    let e : in_range (pos n) ≡ true = grind (arith, nat_tests) in
    ap (λ (b : Bool). cond b (Some (pos n)) None) e
in_range-fits (negsuc n) f =
    let h : n < 2 ^ 127 = f.sfits in
    let e : in_range (negsuc n) ≡ true = grind (arith, nat_tests) in
    ap (λ (b : Bool). cond b (Some (negsuc n)) None) e

split : (k n : ℕ) → k / suc n * suc n + k % suc n ≡ k
split k n = div-add-mod' k (suc n)

below : (k n : ℕ) → k % suc n < suc n
below k n = mod_below k (suc n) (omega arith)

suc-times : (q n : ℕ) → suc q * suc n ≡ q * suc n + suc n
suc-times q n = grind arith

times-suc : (n q : ℕ) → suc n * suc q ≡ q * suc n + suc n
times-suc n q = mul_comm (suc n) (suc q) ∙ suc-times q n

times-turned : (n q : ℕ) → suc n * q ≡ q * suc n
times-turned n q = mul_comm (suc n) q

-- the rest of the next number
suc-rest : (k n : ℕ) → ((k % suc n < n) × (suc k % suc n ≡ suc (k % suc n))) ⊎ ((k % suc n ≡ n) × (suc k % suc n ≡ 0))
suc-rest k n = on (ltb (k % suc n) n) refl
  where
    on : (b : Bool) → ltb (k % suc n) n ≡ b → ((k % suc n < n) × (suc k % suc n ≡ suc (k % suc n))) ⊎ ((k % suc n ≡ n) × (suc k % suc n ≡ 0))
    on true e =
        let h : k % suc n < n = grind (arith, nat_tests) in
        let s : k / suc n * suc n + k % suc n ≡ k = split k n in
        let p : suc k ≡ k / suc n * suc n + suc (k % suc n) = omega arith in
        inl (h, ap (λ (m : ℕ). m % suc n) p ∙ mod-mul-add (k / suc n) (suc n) (suc (k % suc n)) (omega arith))
    on false e =
        let l : k % suc n < suc n = below k n in
        let h : k % suc n ≡ n = grind (arith, nat_tests) in
        let s : k / suc n * suc n + k % suc n ≡ k = split k n in
        let t : suc (k / suc n) * suc n ≡ k / suc n * suc n + suc n = suc-times (k / suc n) n in
        let p : suc k ≡ suc (k / suc n) * suc n + 0 = omega arith in
        inr (h, ap (λ (m : ℕ). m % suc n) p ∙ mod-mul-add (suc (k / suc n)) (suc n) 0 (omega arith))

-- a divisor above 0
pub rest-positive : (a : ℤ) (n : ℕ) → a -ℤ (pos (suc n) *ℤ floor_of a (pos (suc n))) ≡ int_rem_euclid a (pos (suc n))
rest-positive (pos zero) n =
    let s : 0 / suc n * suc n + 0 % suc n ≡ 0 = split 0 n in
    omega (arith, ints)
rest-positive (pos (suc k)) n =
    let s : suc k / suc n * suc n + suc k % suc n ≡ suc k = split (suc k) n in
    let t : suc n * (suc k / suc n) ≡ suc k / suc n * suc n = times-turned n (suc k / suc n) in
    omega (arith, ints)
rest-positive (negsuc k) n =
    let s : k / suc n * suc n + k % suc n ≡ k = split k n in
    let b : k % suc n < suc n = below k n in
    let t : suc n * suc (k / suc n) ≡ k / suc n * suc n + suc n = times-suc n (k / suc n) in
    omega (arith, ints)

-- a divisor below 0
pub rest-negative : (a : ℤ) (n : ℕ) → ((pos 0 <ℤ int_rem_euclid a (negsuc n)) × (a -ℤ (negsuc n *ℤ floor_of a (negsuc n)) ≡ int_rem_euclid a (negsuc n) +ℤ negsuc n))
    ⊎ ((int_rem_euclid a (negsuc n) ≡ pos 0) × (a -ℤ (negsuc n *ℤ floor_of a (negsuc n)) ≡ pos 0))
rest-negative (pos zero) n =
    let s : 0 / suc n * suc n + 0 % suc n ≡ 0 = split 0 n in
    inr (omega (arith, ints), omega (arith, ints))
rest-negative (pos (suc k)) n = elim (suc-rest k n) [
  | inl w ↦
      let s : k / suc n * suc n + k % suc n ≡ k = split k n in
      let t : suc n * suc (k / suc n) ≡ k / suc n * suc n + suc n = times-suc n (k / suc n) in
      let p : suc k % suc n ≡ suc (k % suc n) = w.1 in
      let q : k % suc n < n = w.0 in
      inl (omega (arith, ints), omega (arith, ints))
  | inr w ↦
      let s : k / suc n * suc n + k % suc n ≡ k = split k n in
      let t : suc n * suc (k / suc n) ≡ k / suc n * suc n + suc n = times-suc n (k / suc n) in
      let p : suc k % suc n ≡ 0 = w.1 in
      let q : k % suc n ≡ n = w.0 in
      inr (omega (arith, ints), omega (arith, ints))
]
rest-negative (negsuc k) n = elim (suc-rest k n) [
  | inl w ↦
      let s : suc k / suc n * suc n + suc k % suc n ≡ suc k = split (suc k) n in
      let t : suc n * (suc k / suc n) ≡ suc k / suc n * suc n = times-turned n (suc k / suc n) in
      let p : suc k % suc n ≡ suc (k % suc n) = w.1 in
      let q : k % suc n < n = w.0 in
      inl (omega (arith, ints), omega (arith, ints))
  | inr w ↦
      let s : suc k / suc n * suc n + suc k % suc n ≡ suc k = split (suc k) n in
      let t : suc n * (suc k / suc n) ≡ suc k / suc n * suc n = times-turned n (suc k / suc n) in
      let p : suc k % suc n ≡ 0 = w.1 in
      let q : k % suc n ≡ n = w.0 in
      inr (omega (arith, ints), omega (arith, ints))
]

pub modulus-low : (a b : ℤ) → b <ℤ pos 0 → pos 0 <ℤ int_rem_euclid a b → FitsSigned w128 (int_rem_euclid a b +ℤ b) → Some (int_rem_euclid a b +ℤ b) ≡ calculated modulus a b
modulus-low a (pos n) l h f = absurd (omega (arith, ints))
modulus-low a (negsuc n) l h f = elim (rest-negative a n) [
  | inl w ↦ sym (ap where_in_range w.1 ∙ in_range-fits (int_rem_euclid a (negsuc n) +ℤ negsuc n) f)
  | inr w ↦ absurd (let z : int_rem_euclid a (negsuc n) ≡ pos 0 = w.0 in omega (arith, ints))
]

pub modulus-rest : (a b : ℤ) → (b ≡ pos 0 → ⊥) → (b <ℤ pos 0 → pos 0 <ℤ int_rem_euclid a b → ⊥) → FitsSigned w128 (int_rem_euclid a b) → Some (int_rem_euclid a b) ≡ calculated modulus a b
modulus-rest a (pos zero) n m f = absurd (n refl)
modulus-rest a (pos (suc k)) n m f = sym (ap where_in_range (rest-positive a k) ∙ in_range-fits (int_rem_euclid a (pos (suc k))) f)
modulus-rest a (negsuc k) n m f = elim (rest-negative a k) [
  | inl w ↦ absurd (m (omega (arith, ints)) w.0)
  | inr w ↦ sym (ap where_in_range (w.1 ∙ sym w.0) ∙ in_range-fits (int_rem_euclid a (negsuc k)) f)
]
