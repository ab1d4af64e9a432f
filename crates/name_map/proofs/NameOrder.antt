-- Names in order: by worker, then by number.
use Rattle.std.proofs.Common.{◌≡◌, ℕ, refl, ◌∙◌, arith}
use Rattle.std.proofs.lemmas.Bool.Decides.{nat_tests}
use Rattle.std.proofs.lemmas.Cmp.{nat_cmp_total, on_total, then_total}
use Rattle.std.proofs.lemmas.Map.Lookups.{CmpEqualImpliesEq, exact_unsigned}
use Rattle.std.specs.Prelude.{◌&&◌, ◌==◌}
use Rattle.std.specs.Cmp.{IsTotalOrder}
use Rattle.std.specs.Ordering.{nat_cmp, ordering_then, is_eq}
use Rattle.std.specs.declared.cmp.Ordering.{Ordering}
use Rattle.std.specs.declared.cmp.Ordering.TheVariants.{Less, Equal, Greater}
use Rattle.akl_terms.specs.declared.name.Name.{Name}
use Rattle.akl_terms.specs.Names.{same_name, name_cmp}

pub name_total : IsTotalOrder name_cmp
name_total = then_total (on_total (λ (m : Name). m.worker) nat_cmp_total) (on_total (λ (m : Name). m.number) nat_cmp_total)

both_equal : (a b : Ordering) → ordering_then a b ≡ Equal → (a ≡ Equal) × (b ≡ Equal)
both_equal Less b e = cc
both_equal Equal b e = (λ i. Equal, e)
both_equal Greater b e = cc

pub name_exact : CmpEqualImpliesEq name_cmp
name_exact m n e =
    let h : (nat_cmp m.worker n.worker ≡ Equal) × (nat_cmp m.number n.number ≡ Equal) = both_equal (nat_cmp m.worker n.worker) (nat_cmp m.number n.number) e in
    λ i. record { worker = exact_unsigned m.worker n.worker h.0 i; number = exact_unsigned m.number n.number h.1 i }

nat_is : (x y : ℕ) → is_eq (nat_cmp x y) ≡ (x == y)
nat_is x y = grind (arith, nat_tests)

then_is : (a b : Ordering) → is_eq (ordering_then a b) ≡ (is_eq a && is_eq b)
then_is Less b = refl
then_is Equal b = refl
then_is Greater b = refl

-- two names are one where their order has them equal
pub name_is : (m n : Name) → is_eq (name_cmp m n) ≡ same_name m n
name_is m n = then_is (nat_cmp m.worker n.worker) (nat_cmp m.number n.number) ∙ (λ i. nat_is m.worker n.worker i && nat_is m.number n.number i)

pub name_back : (m n : Name) → same_name m n ≡ same_name n m
name_back m n = grind (arith, nat_tests)
