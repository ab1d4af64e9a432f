-- Orders, those of names and of variables, and when two of them are one.
use Rattle.std.proofs.Common.{◌≡◌, ℕ, ◌<◌, refl, ap, ◌∙◌, arith, Bool, true, false}
use Rattle.std.proofs.lemmas.Bool.Decides.{nat_tests}
use Rattle.std.proofs.lemmas.Cmp.{nat_cmp_total, on_total, then_total}
use Rattle.std.specs.Prelude.{nat_lt, ◌==◌}
use Rattle.std.specs.Ordering.{nat_cmp, is_eq, is_lt, ordering_then, ordering_reverse}
use Rattle.std.specs.declared.cmp.Ordering.{Ordering}
use Rattle.std.specs.declared.cmp.Ordering.TheVariants.{Less, Equal, Greater}
use Rattle.std.specs.Cmp.{IsTotalOrder}
use Rattle.akl_terms.specs.declared.name.Name.{Name}
use Rattle.akl_terms.specs.declared.name.Var.{Var}
use Rattle.akl_terms.specs.Names.{same_name, same_var, name_cmp, var_cmp}

pub Less-from_is_lt : (o : Ordering) → is_lt o ≡ true → o ≡ Less
Less-from_is_lt Less h = refl
Less-from_is_lt Equal h = cc
Less-from_is_lt Greater h = cc

module _ {K : Type 0} (cmp : K → K → Ordering) (o : IsTotalOrder cmp) (x y : K) where
  pub Greater-from_less : cmp x y ≡ Less → cmp y x ≡ Greater
  Greater-from_less less = o.antisymm y x ∙ ap ordering_reverse less

  pub Less-from_greater : cmp x y ≡ Greater → cmp y x ≡ Less
  Less-from_greater greater = o.antisymm y x ∙ ap ordering_reverse greater

-- what a comparison tells
abbrev Tells : Ordering → ℕ → ℕ → Type 0
Tells Less m n = m < n
Tells Equal m n = m ≡ n
Tells Greater m n = n < m

tells : (m n : ℕ) → Tells (nat_cmp m n) m n
tells m n = on (nat_lt m n) refl (m == n) refl
  where
    on : (k : Bool) → nat_lt m n ≡ k → (l : Bool) → (m == n) ≡ l → Tells (nat_cmp m n) m n
    on true e l f = let h : m < n = grind (arith, nat_tests) in rw e h
    on false e true f = let h : m ≡ n = grind (arith, nat_tests) in rw (e, f) h
    on false e false f = let h : n < m = grind (arith, nat_tests) in rw (e, f) h

pub name-same : (a b : Name) → is_eq (name_cmp a b) ≡ same_name a b
name-same a b = grind (arith, nat_tests)

module _ (x y : Var) where
  is_same : (a b c : Ordering) → Tells a x.frame.worker y.frame.worker → Tells b x.frame.number y.frame.number → Tells c x.index y.index → is_eq (ordering_then (ordering_then a b) c) ≡ same_var y x
  is_same Less b c p q r = grind (arith, nat_tests)
  is_same Greater b c p q r = grind (arith, nat_tests)
  is_same Equal Less c p q r = grind (arith, nat_tests)
  is_same Equal Greater c p q r = grind (arith, nat_tests)
  is_same Equal Equal Less p q r = grind (arith, nat_tests)
  is_same Equal Equal Greater p q r = grind (arith, nat_tests)
  is_same Equal Equal Equal p q r = grind (arith, nat_tests)

  pub var-same : is_eq (var_cmp x y) ≡ same_var y x
  var-same = is_same (nat_cmp x.frame.worker y.frame.worker) (nat_cmp x.frame.number y.frame.number) (nat_cmp x.index y.index)
      (tells x.frame.worker y.frame.worker) (tells x.frame.number y.frame.number) (tells x.index y.index)

pub name-total : IsTotalOrder name_cmp
name-total = then_total (on_total (λ (n : Name). n.worker) nat_cmp_total) (on_total (λ (n : Name). n.number) nat_cmp_total)
