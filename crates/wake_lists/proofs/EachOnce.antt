-- Variables that are sorted, of which equal ones go but for the first.
use Rattle.std.proofs.Common.{◌≡◌, Bool, true, false, List, [], refl, sym, ap, subst, ◌∙◌}
use Rattle.std.proofs.lemmas.Cmp.{nat_cmp_total, on_total, then_total, eq_by_cmp_equiv}
use Rattle.std.proofs.lemmas.List.Filters.{dedup_is}
use Rattle.std.proofs.lemmas.List.Kept.{IsStrictlySortedBy-dedup, Contains-dedup, Contains-from_dedup}
use Rattle.std.proofs.lemmas.List.Sorted.{list_any-IsPermutation}
use Rattle.std.proofs.lemmas.Map.Keys.{IsDistinct-from_sorted}
use Rattle.std.proofs.lemmas.Map.Views.{Contains-from_any, list_any-from_Contains}
use Rattle.std.specs.Cmp.{IsTotalOrder, IsEquivalence}
use Rattle.std.specs.List.{Contains, dedup, IsDistinct}
use Rattle.std.specs.List.Retain.{IsFiltered, DiffersFromLast}
use Rattle.std.specs.List.Sorted.{IsPermutation, IsSorted}
use Rattle.std.specs.Ordering.{eq_by_cmp}
use Rattle.akl_terms.specs.declared.name.Var.{Var}
use Rattle.akl_terms.specs.Names.{same_var, var_cmp}
use Rattle.akl_terms.proofs.SameNames.{same_var-equal}
use Rattle.wake_lists.specs.Waits.{is_variable_in}
use Rattle.wake_lists.proofs.Keys.{var_is}

var_total : IsTotalOrder var_cmp
var_total = then_total
    (then_total (on_total (λ (x : Var). x.frame.worker) nat_cmp_total) (on_total (λ (x : Var). x.frame.number) nat_cmp_total))
    (on_total (λ (x : Var). x.index) nat_cmp_total)

var_tests : eq_by_cmp var_cmp ≡ same_var
var_tests = λ i x y. var_is x y i

var_equivalence : IsEquivalence same_var
var_equivalence = subst (λ (e : Var → Var → Bool). IsEquivalence e) var_tests (eq_by_cmp_equiv var_total)

-- two tests that hold together are one
both_so : (a b : Bool) → (a ≡ true → b ≡ true) → (b ≡ true → a ≡ true) → a ≡ b
both_so true b f g = sym (f refl)
both_so false true f g = g refl
both_so false false f g = refl

module _ (xs ys zs : List Var) (same : Var → Var → Bool) (filtered : IsFiltered (DiffersFromLast same) [] ys zs) (is : (x y : Var) → same x y ≡ same_var x y) (permuted : IsPermutation xs ys) (sorted : IsSorted var_cmp ys) where
  left : zs ≡ dedup same ys
  left = dedup_is same ys zs filtered

  one_test : same ≡ same_var
  one_test = λ i x y. is x y i

  pub each_is_once : IsDistinct same_var zs
  each_is_once = subst (λ (e : Var → Var → Bool). IsDistinct e zs) var_tests
      (subst (IsDistinct (eq_by_cmp var_cmp)) (sym left) (IsDistinct-from_sorted var_cmp (dedup same ys) (IsStrictlySortedBy-dedup var_total (λ x y. is x y ∙ sym (var_is x y)) ys sorted)))

  pub same_variables : (x : Var) → is_variable_in x zs ≡ is_variable_in x xs
  same_variables x = ap (is_variable_in x) left ∙ both_so (is_variable_in x (dedup same ys)) (is_variable_in x ys) stays was ∙ sym (list_any-IsPermutation (same_var x) xs ys permuted)
    where
      stays : is_variable_in x (dedup same ys) ≡ true → is_variable_in x ys ≡ true
      stays e = list_any-from_Contains var_equivalence x ys (Contains-from_dedup same ys x (Contains-from_any same_var-equal x (dedup same ys) e))

      was : is_variable_in x ys ≡ true → is_variable_in x (dedup same ys) ≡ true
      was e = list_any-from_Contains var_equivalence x (dedup same ys)
          (subst (λ (t : Var → Var → Bool). Contains (dedup t ys) x) (sym one_test) (Contains-dedup var_equivalence same_var-equal ys x (Contains-from_any same_var-equal x ys e)))

pub none_once : IsDistinct same_var []
unfolding IsDistinct
none_once = tt
