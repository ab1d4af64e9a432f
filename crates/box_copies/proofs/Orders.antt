-- Names in increasing order.
use Rattle.std.proofs.Common.{◌≡◌, ℕ, ◌+◌, Bool, true, false, List, [], ◌∷◌, ◌++◌, map, refl, sym, ap, subst, inl, inr, arith}
use Rattle.std.proofs.lemmas.Bool.Decides.{nat_tests}
use Rattle.std.specs.Ordering.{match_ordering}
use Rattle.std.specs.declared.cmp.Ordering.{Ordering}
use Rattle.std.specs.List.{AllByRecursion}
use Rattle.std.specs.List.Sorted.{IsStrictlySortedBy}
use Rattle.akl_terms.specs.contracts.name.NameOrd.TheImpl.{cmp-value}
use Rattle.akl_terms.specs.declared.name.Name.{Name}
use Rattle.akl_terms.specs.Names.{same_name, is_before, name_cmp}
use Rattle.akl_terms.proofs.SameNames.{same_name-refl}
use Rattle.akl_model.specs.Config.{IsIn}
use Rattle.akl_model.specs.Ordered.{IsBeforeAll, IsIncreasing}
use Rattle.akl_model.specs.Names.{one_if, times_in}
use Rattle.akl_model.specs.Renaming.{renaming}
use Rattle.akl_model.proofs.Orders.{before_not, renaming_before}
use Rattle.akl_model.proofs.ScopesAlong.{counted_in}
use Rattle.local_store.specs.Stored.{named}

pub before_itself : (a : Name) → is_before a a ≡ true → ⊥
before_itself a e = before_not a a e e

pub before_in : (a m : Name) (ns : List Name) → IsBeforeAll a ns → IsIn m ns → is_before a m ≡ true
before_in a m [] h i = absurd i
before_in a m (n ∷ ns) h (inl e) = subst (λ (x : Name). is_before a x ≡ true) (sym e) h.0
before_in a m (n ∷ ns) h (inr i) = before_in a m ns h.1 i

-- each stands once
pub increasing_once : (ns : List Name) → IsIncreasing ns → (m : Name) → IsIn m ns → times_in m ns ≡ 1
increasing_once [] h m i = absurd i
increasing_once (n ∷ ns) h m i = on (same_name m n) refl i (λ j. increasing_once ns h.1 m j)
  where
    none : (ks : List Name) → IsBeforeAll n ks → times_in n ks ≡ 0
    none [] b = refl
    none (k ∷ ks) b = past (same_name n k) refl (none ks b.1)
      where
        past : (t : Bool) → same_name n k ≡ t → times_in n ks ≡ 0 → one_if t + times_in n ks ≡ 0
        past true e z = absurd (before_itself n (grind (arith, nat_tests)))
        past false e z = omega arith

    on : (t : Bool) → same_name m n ≡ t → IsIn m (n ∷ ns) → (IsIn m ns → times_in m ns ≡ 1) → one_if t + times_in m ns ≡ 1
    on true e (inl q) f = let z : times_in n ns ≡ 0 = none ns h.0 in let y : times_in m ns ≡ times_in n ns = ap (λ (k : Name). times_in k ns) q in omega arith
    on true e (inr j) f = absurd (before_itself n (let b : is_before n m ≡ true = before_in n m ns h.0 j in grind (arith, nat_tests)))
    on false e (inl q) f = let t : same_name m n ≡ true = subst (λ (k : Name). same_name m k ≡ true) q (same_name-refl m) in absurd cc
    on false e (inr j) f = let z : times_in m ns ≡ 1 = f j in omega arith

-- the keys of a map or a set
pub keys_increase : (ks : List Name) → IsStrictlySortedBy cmp-value.it ks → IsIncreasing ks
unfolding IsStrictlySortedBy
keys_increase [] o = tt
keys_increase (k ∷ ks) o = (before k ks o.0, keys_increase ks o.1)
  where
    before : (k : Name) (ms : List Name) → AllByRecursion (λ y. cmp-value.it k y ≡ Ordering.Less) ms → IsBeforeAll k ms
    before k [] a = tt
    before k (m ∷ ms) a = (let e : cmp-value.it k m ≡ Ordering.Less = a.0 in grind (arith, nat_tests), before k ms a.1)

-- under new names
module _ (ns : List Name) (w next : ℕ) (sorted : IsIncreasing ns) where
  before_renamed : (k : Name) (xs : List Name) → IsIn k ns → ((m : Name) → IsIn m xs → IsIn m ns) → IsBeforeAll k xs → IsBeforeAll (renaming ns w next k) (map (renaming ns w next) xs)
  before_renamed k [] c among h = tt
  before_renamed k (x ∷ xs) c among h = (
    renaming_before ns w next k x sorted (counted_in k ns c) (counted_in x ns (among x (inl refl))) h.0,
    before_renamed k xs c (λ m i. among m (inr i)) h.1,
  )

  pub increasing_renamed : (xs : List Name) → ((m : Name) → IsIn m xs → IsIn m ns) → IsIncreasing xs → IsIncreasing (map (renaming ns w next) xs)
  increasing_renamed [] among h = tt
  increasing_renamed (x ∷ xs) among h = (before_renamed x xs (among x (inl refl)) (λ m i. among m (inr i)) h.0, increasing_renamed xs (λ m i. among m (inr i)) h.1)

-- a name that comes after all others goes to the end

pub after_all : (x k : Name) → is_before x k ≡ true → name_cmp k x ≡ Ordering.Greater
after_all x k e = grind (arith, nat_tests)

pub before_last : (x k : Name) (xs ys : List Name) → IsBeforeAll x (xs ++ k ∷ ys) → is_before x k ≡ true
before_last x k [] ys h = h.0
before_last x k (y ∷ xs) ys h = before_last x k xs ys h.1

pub named_last : (xs ys : List Name) (k : Name) → IsIncreasing (xs ++ k ∷ ys) → named xs k ≡ xs ++ k ∷ []
named_last [] ys k o = refl
named_last (x ∷ xs) ys k o = on (name_cmp k x) (after_all x k (before_last x k xs ys o.0)) (named_last xs ys k o.1)
  where
    on : (c : Ordering) → c ≡ Ordering.Greater → named xs k ≡ xs ++ k ∷ [] → match_ordering c (k ∷ x ∷ xs) (x ∷ xs) (x ∷ named xs k) ≡ x ∷ (xs ++ k ∷ [])
    on Ordering.Less e r = cc
    on Ordering.Equal e r = cc
    on Ordering.Greater e r = ap (λ (l : List Name). x ∷ l) r
