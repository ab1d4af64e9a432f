-- When two names, or two variables, are one.
use Rattle.std.proofs.Common.{◌≡◌, true, arith}
use Rattle.std.proofs.lemmas.Bool.Decides.{nat_tests}
use Rattle.akl_terms.specs.declared.name.Name.{Name}
use Rattle.akl_terms.specs.declared.name.Var.{Var}
use Rattle.akl_terms.specs.Names.{same_name, same_var}

pub same_name-equal : (a b : Name) → same_name a b ≡ true → a ≡ b
same_name-equal a b e =
    let p : a.worker ≡ b.worker = grind (arith, nat_tests) in
    let q : a.number ≡ b.number = grind (arith, nat_tests) in
    λ i. record { worker = p i; number = q i }

pub same_name-refl : (a : Name) → same_name a a ≡ true
same_name-refl a = grind (arith, nat_tests)

pub same_var-equal : (x y : Var) → same_var x y ≡ true → x ≡ y
same_var-equal x y e =
    let a : x.frame.worker ≡ y.frame.worker = grind (arith, nat_tests) in
    let b : x.frame.number ≡ y.frame.number = grind (arith, nat_tests) in
    let c : x.index ≡ y.index = grind (arith, nat_tests) in
    λ i. record { frame = record { worker = a i; number = b i }; index = c i }

pub same_var-refl : (x : Var) → same_var x x ≡ true
same_var-refl x = grind (arith, nat_tests)
