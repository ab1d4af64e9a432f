-- Variables are ordered by frame and index, and those of one rank are one.
use Rattle.std.proofs.Common.{◌≡◌}
use Rattle.std.proofs.lemmas.Cmp.{nat_cmp_total, on_total, then_total}
use Rattle.std.proofs.lemmas.Map.Lookups.{CmpEqualImpliesEq, exact_unsigned}
use Rattle.std.specs.Cmp.{IsTotalOrder}
use Rattle.std.specs.Ordering.{nat_cmp, ordering_then}
use Rattle.std.specs.declared.cmp.Ordering.{Ordering}
use Rattle.std.specs.declared.cmp.Ordering.TheVariants.{Less, Equal, Greater}
use Rattle.akl_terms.specs.declared.name.Var.{Var}
use Rattle.akl_terms.specs.Names.{name_cmp, var_cmp}

pub var_total : IsTotalOrder var_cmp
var_total = then_total
    (then_total (on_total (λ (x : Var). x.frame.worker) nat_cmp_total) (on_total (λ (x : Var). x.frame.number) nat_cmp_total))
    (on_total (λ (x : Var). x.index) nat_cmp_total)

both_equal : (a b : Ordering) → ordering_then a b ≡ Equal → (a ≡ Equal) × (b ≡ Equal)
both_equal Less b e = cc
both_equal Equal b e = (λ i. Equal, e)
both_equal Greater b e = cc

name_exact : CmpEqualImpliesEq name_cmp
name_exact m n e =
    let h : (nat_cmp m.worker n.worker ≡ Equal) × (nat_cmp m.number n.number ≡ Equal) = both_equal (nat_cmp m.worker n.worker) (nat_cmp m.number n.number) e in
    λ i. record { worker = exact_unsigned m.worker n.worker h.0 i; number = exact_unsigned m.number n.number h.1 i }

pub var_exact : CmpEqualImpliesEq var_cmp
var_exact x y e =
    let h : (name_cmp x.frame y.frame ≡ Equal) × (nat_cmp x.index y.index ≡ Equal) = both_equal (name_cmp x.frame y.frame) (nat_cmp x.index y.index) e in
    λ i. record { frame = name_exact x.frame y.frame h.0 i; index = exact_unsigned x.index y.index h.1 i }
