-- Variables that are put in order, each once.
use Rattle.std.proofs.Common.{◌≡◌, ℕ, zero, suc, ◌<◌, Bool, List, [], ◌∷◌, length, sym, ◌∙◌, subst, inl, inr, get_or, arith}
use Rattle.std.proofs.lemmas.Bool.Decides.{nat_tests}
use Rattle.std.proofs.lemmas.Cmp.{eq_by_cmp_equiv}
use Rattle.std.proofs.lemmas.List.Filters.{dedup_is}
use Rattle.std.proofs.lemmas.List.Kept.{IsStrictlySortedBy-dedup, Contains-dedup, Contains-from_dedup}
use Rattle.std.proofs.lemmas.List.Sorted.{Contains-permutation, IsPermutation-sym}
use Rattle.std.specs.Cmp.{IsEquivalence}
use Rattle.std.specs.List.{Contains, dedup}
use Rattle.std.specs.List.Retain.{IsFiltered, DiffersFromLast}
use Rattle.std.specs.List.Sorted.{IsPermutation, IsSorted}
use Rattle.std.specs.Ordering.{eq_by_cmp}
use Rattle.akl_terms.specs.declared.name.Var.{Var}
use Rattle.akl_terms.specs.Names.{same_var, var_cmp}
use Rattle.akl_terms.proofs.SameNames.{same_var-equal}
use Rattle.constraint_laws.specs.Touched.{IsAmong}
use Rattle.constraint_laws.proofs.VariableOrder.{var_total}
use Rattle.local_store.proofs.Orders.{var-same}
use Rattle.tree_models.specs.Variables.{AreOnce}

contained : (xs : List Var) (x : Var) → IsAmong x xs → Contains xs x
contained [] x m = absurd m
contained (y ∷ ys) x (inl e) = (0, omega arith, sym e)
contained (y ∷ ys) x (inr m) = let c : Contains ys x = contained ys x m in (suc c.0, (let l : c.0 < length ys = c.1 in omega (arith, l)), c.2)

among_at : (xs : List Var) (x : Var) (k : ℕ) → k < length xs → get_or xs k x ≡ x → IsAmong x xs
among_at [] x k l e = absurd (omega (arith, l))
among_at (y ∷ ys) x zero l e = inl (sym e)
among_at (y ∷ ys) x (suc k) l e = inr (among_at ys x k (omega (arith, l)) e)

turned_test : (x y : Var) → same_var x y ≡ same_var y x
turned_test x y = grind (arith, nat_tests)

tests : eq_by_cmp var_cmp ≡ same_var
tests = λ i x y. (var-same x y ∙ turned_test y x) i

equivalence : IsEquivalence same_var
equivalence = subst (λ (e : Var → Var → Bool). IsEquivalence e) tests (eq_by_cmp_equiv var_total)

pub put_once : (xs ys zs : List Var) → IsPermutation xs ys → IsSorted var_cmp ys → IsFiltered (DiffersFromLast same_var) [] ys zs → AreOnce xs zs
put_once xs ys zs p s f = subst (AreOnce xs) (sym (dedup_is same_var ys zs f)) (record {
  increasing = IsStrictlySortedBy-dedup var_total (λ x y. turned_test x y ∙ sym (var-same x y)) ys s;
  each = λ x m.
      let c : Contains (dedup same_var ys) x = contained (dedup same_var ys) x m in
      let d : Contains xs x = Contains-permutation ys xs x (IsPermutation-sym xs ys p) (Contains-from_dedup same_var ys x c) in
      among_at xs x d.0 d.1 d.2;
  every = λ x m.
      let c : Contains (dedup same_var ys) x = Contains-dedup equivalence same_var-equal ys x (Contains-permutation xs ys x p (contained xs x m)) in
      among_at (dedup same_var ys) x c.0 c.1 c.2;
})
