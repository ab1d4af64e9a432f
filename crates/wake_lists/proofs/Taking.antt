-- Free numbers as a heap, when one is taken out of it or put into it.
use Rattle.std.proofs.Common.{◌≡◌, ℕ, ◌<◌, ◌≤◌, Bool, true, false, List, [], ◌∷◌, length, refl, sym, ◌∙◌, arith}
use Rattle.std.proofs.lemmas.Bool.Decides.{nat_tests}
use Rattle.std.proofs.lemmas.List.Sorted.{list_any-IsPermutation, IsPermutation-map, IsPermutation-sym}
use Rattle.std.proofs.lemmas.List.{length-map}
use Rattle.std.proofs.lemmas.Map.Keys.{IsDistinct-IsPermutation}
use Rattle.std.proofs.lemmas.Map.Steps.{length-le_from_distinct_below}
use Rattle.std.specs.Prelude.{◌&&◌, ◌||◌, ◌==◌, not, nat_lt}
use Rattle.std.specs.declared.result.Result.{Result}
use Rattle.std.specs.declared.result.Result.TheVariants.{Ok, Err}
use Rattle.std.specs.Prelude.{IsOk, OnOk}
use Rattle.std.specs.List.{list_any, IsDistinct, AllByRecursion}
use Rattle.std.specs.List.Sorted.{IsPermutation}
use Rattle.std.specs.BinaryHeap.{IsHeap, IsUpperBound}
use Rattle.std.specs.declared.cmp.Reverse.{Reverse}
use Rattle.std.specs.Ordering.{nat_cmp, is_lt}
use Rattle.wake_lists.specs.Tokens.{is_taken, numbers_of, least_first, AreKept, IsLeastFree, Takes, GivesBack}
use lib.Dec.{eqb}

pub on_ok : {T E P : Type 0} (r : Result T E) → OnOk r P → IsOk r → P
on_ok (Ok x) p o = p
on_ok (Err e) p o = absurd (cc)

flips : (x y : ℕ) → eqb x y ≡ eqb y x
flips x y = grind (arith, nat_tests)

-- a number that isn't among some differs from each of them
apart : (t : ℕ) (xs : List ℕ) → list_any (eqb t) xs ≡ false → AllByRecursion (λ y. eqb t y ≡ false) xs
apart t [] e = tt
apart t (y ∷ ys) e = on (eqb t y) refl e (apart t ys)
  where
    on : (b : Bool) → eqb t y ≡ b → (b || list_any (eqb t) ys) ≡ false → (list_any (eqb t) ys ≡ false → AllByRecursion (λ y. eqb t y ≡ false) ys) → (eqb t y ≡ false) × AllByRecursion (λ y. eqb t y ≡ false) ys
    on false f e r = (f, r e)
    on true f e r = absurd (cc)

back : (t : ℕ) (xs : List ℕ) → AllByRecursion (λ y. eqb t y ≡ false) xs → list_any (eqb t) xs ≡ false
back t [] a = refl
back t (y ∷ ys) a = rw a.0 (back t ys a.1)

module _ (xs ys : List (Reverse ℕ)) (x : Reverse ℕ) (p : IsPermutation xs (x ∷ ys)) where
  any_is : (k : ℕ) → list_any (eqb k) (numbers_of xs) ≡ (eqb k x.0 || list_any (eqb k) (numbers_of ys))
  any_is k = list_any-IsPermutation (eqb k) (numbers_of xs) (x.0 ∷ numbers_of ys) (IsPermutation-map (λ (r : Reverse ℕ). r.0) xs (x ∷ ys) p)

  distinct_is : IsDistinct eqb (numbers_of xs) → IsDistinct eqb (x.0 ∷ numbers_of ys)
  distinct_is d = IsDistinct-IsPermutation eqb flips (numbers_of xs) (x.0 ∷ numbers_of ys) (IsPermutation-map (λ (r : Reverse ℕ). r.0) xs (x ∷ ys) p) d

  distinct_back : IsDistinct eqb (x.0 ∷ numbers_of ys) → IsDistinct eqb (numbers_of xs)
  distinct_back d = IsDistinct-IsPermutation eqb flips (x.0 ∷ numbers_of ys) (numbers_of xs) (IsPermutation-map (λ (r : Reverse ℕ). r.0) (x ∷ ys) xs (IsPermutation-sym xs (x ∷ ys) p)) d

first_apart : (t : ℕ) (xs : List ℕ) → IsDistinct eqb (t ∷ xs) → list_any (eqb t) xs ≡ false
unfolding IsDistinct
first_apart t xs d = back t xs d.0

rest_distinct : (t : ℕ) (xs : List ℕ) → IsDistinct eqb (t ∷ xs) → IsDistinct eqb xs
unfolding IsDistinct
rest_distinct t xs d = d.1

pub none_distinct : IsDistinct eqb []
unfolding IsDistinct
none_distinct = tt

more_distinct : (t : ℕ) (xs : List ℕ) → list_any (eqb t) xs ≡ false → IsDistinct eqb xs → IsDistinct eqb (t ∷ xs)
unfolding IsDistinct
more_distinct t xs e d = (apart t xs e, d)

at_least : (m n : ℕ) → is_lt (nat_cmp m n) ≡ false → n ≤ m
at_least m n e = grind (arith, nat_tests)

-- one of the free numbers is taken
module _ (bound capacity : ℕ) (xs ys : List (Reverse ℕ)) (x : Reverse ℕ) (kept : AreKept bound xs capacity) (p : IsPermutation xs (x ∷ ys)) where
  was_free : list_any (eqb x.0) (numbers_of xs) ≡ true
  was_free = any_is xs ys x p x.0 ∙ first (eqb x.0 x.0) (grind (arith, nat_tests))
    where
      first : (b : Bool) → b ≡ true → (b || list_any (eqb x.0) (numbers_of ys)) ≡ true
      first true e = refl
      first false e = absurd (cc)

  pub fewer_kept : IsHeap least_first ys → AreKept bound ys capacity
  fewer_kept h = record {
    heap = h;
    distinct = rest_distinct x.0 (numbers_of ys) (distinct_is xs ys x p kept.distinct);
    below = λ k e. kept.below k (any_is xs ys x p k ∙ among (eqb k x.0) (list_any (eqb k) (numbers_of ys)) e);
    room = kept.room;
  }
    where
      among : (a b : Bool) → b ≡ true → (a || b) ≡ true
      among true b e = refl
      among false b e = e

  pub fewer_takes : Takes (record { bound = bound; free = numbers_of xs }) (record { bound = bound; free = numbers_of ys }) x.0
  fewer_takes k =
      let gone : list_any (eqb x.0) (numbers_of ys) ≡ false = first_apart x.0 (numbers_of ys) (distinct_is xs ys x p kept.distinct) in
      let small : x.0 < bound = kept.below x.0 was_free in
      on (k == x.0) refl (any_is xs ys x p k) gone small
    where
      on : (b : Bool) → (k == x.0) ≡ b → list_any (eqb k) (numbers_of xs) ≡ (eqb k x.0 || list_any (eqb k) (numbers_of ys)) → list_any (eqb x.0) (numbers_of ys) ≡ false → x.0 < bound
          → (nat_lt k bound && not (list_any (eqb k) (numbers_of ys))) ≡ (b || (nat_lt k bound && not (list_any (eqb k) (numbers_of xs))))
      on true e f gone small =
          let same : k ≡ x.0 = grind (arith, nat_tests) in
          rw same (rw gone (grind (arith, nat_tests)))
      on false e f gone small = let differs : eqb k x.0 ≡ false = grind (arith, nat_tests) in rw f (rw differs refl)

  pub fewer_least : IsUpperBound least_first x ys → IsLeastFree (record { bound = bound; free = numbers_of xs }) x.0
  fewer_least u = record {
    free = rw was_free (grind (arith, nat_tests));
    least = λ k below.
        let small : k < bound = let s : x.0 < bound = kept.below x.0 was_free in omega arith in
        let here : list_any (eqb k) (numbers_of ys) ≡ false = above ys u k below in
        let differs : eqb k x.0 ≡ false = grind (arith, nat_tests) in
        rw (any_is xs ys x p k) (rw differs (rw here (grind (arith, nat_tests))));
  }
    where
      above : (zs : List (Reverse ℕ)) → IsUpperBound least_first x zs → (k : ℕ) → k < x.0 → list_any (eqb k) (numbers_of zs) ≡ false
      above [] u k below = refl
      above (z ∷ zs) u k below = let differs : eqb k z.0 ≡ false = let h : x.0 ≤ z.0 = at_least z.0 x.0 u.0 in grind (arith, nat_tests) in rw differs (above zs u.1 k below)

-- no number is free that is below all of some
pub all_taken : (bound : ℕ) (xs : List (Reverse ℕ)) (x : Reverse ℕ) → IsUpperBound least_first x xs → (n : ℕ) → n ≤ x.0 → (k : ℕ) → k < n → k < bound → is_taken (record { bound = bound; free = numbers_of xs }) k ≡ true
all_taken bound xs x u n le k below small = rw (none xs u) (grind (arith, nat_tests))
  where
    none : (zs : List (Reverse ℕ)) → IsUpperBound least_first x zs → list_any (eqb k) (numbers_of zs) ≡ false
    none [] u = refl
    none (z ∷ zs) u = let differs : eqb k z.0 ≡ false = let h : x.0 ≤ z.0 = at_least z.0 x.0 u.0 in grind (arith, nat_tests) in rw differs (none zs u.1)

-- a number that was taken is free
module _ (bound capacity : ℕ) (xs : List (Reverse ℕ)) (x : Reverse ℕ) (kept : AreKept bound xs capacity)
    (taken : is_taken (record { bound = bound; free = numbers_of xs }) x.0 ≡ true) where
  small : x.0 < bound
  small = on (nat_lt x.0 bound) refl taken
    where
      on : (b : Bool) → nat_lt x.0 bound ≡ b → (b && not (list_any (eqb x.0) (numbers_of xs))) ≡ true → x.0 < bound
      on true e f = grind (arith, nat_tests)
      on false e f = absurd (cc)

  gone : list_any (eqb x.0) (numbers_of xs) ≡ false
  gone = on (nat_lt x.0 bound) (list_any (eqb x.0) (numbers_of xs)) taken
    where
      on : (a b : Bool) → (a && not b) ≡ true → b ≡ false
      on a false e = refl
      on true true e = absurd (cc)
      on false true e = absurd (cc)

  all_distinct : IsDistinct eqb (x.0 ∷ numbers_of xs)
  all_distinct = more_distinct x.0 (numbers_of xs) gone kept.distinct

  all_below : (k : ℕ) → list_any (eqb k) (x.0 ∷ numbers_of xs) ≡ true → k < bound
  all_below k e = on (eqb k x.0) refl e
    where
      on : (b : Bool) → eqb k x.0 ≡ b → (b || list_any (eqb k) (numbers_of xs)) ≡ true → k < bound
      on true f e = let same : k ≡ x.0 = grind (arith, nat_tests) in let s : x.0 < bound = small in omega arith
      on false f e = kept.below k e

  pub has_room : length xs < capacity
  has_room =
      let few : length (x.0 ∷ numbers_of xs) ≤ bound = length-le_from_distinct_below (x.0 ∷ numbers_of xs) bound all_distinct all_below in
      let same : length (numbers_of xs) ≡ length xs = length-map xs (λ (r : Reverse ℕ). r.0) in
      let room : bound ≤ capacity = kept.room in
      omega arith

  pub more_kept : (ys : List (Reverse ℕ)) (more : ℕ) → IsPermutation (x ∷ xs) ys → IsHeap least_first ys → capacity ≤ more → AreKept bound ys more
  more_kept ys more p h room = record {
    heap = h;
    distinct = distinct_back ys xs x (IsPermutation-sym (x ∷ xs) ys p) all_distinct;
    below = λ k e. all_below k (sym (any_is ys xs x (IsPermutation-sym (x ∷ xs) ys p) k) ∙ e);
    room = let was : bound ≤ capacity = kept.room in omega arith;
  }

  pub more_gives : (ys : List (Reverse ℕ)) → IsPermutation (x ∷ xs) ys → GivesBack (record { bound = bound; free = numbers_of xs }) (record { bound = bound; free = numbers_of ys }) x.0
  more_gives ys p k = on (k == x.0) refl (any_is ys xs x (IsPermutation-sym (x ∷ xs) ys p) k)
    where
      on : (b : Bool) → (k == x.0) ≡ b → list_any (eqb k) (numbers_of ys) ≡ (eqb k x.0 || list_any (eqb k) (numbers_of xs))
          → (nat_lt k bound && not (list_any (eqb k) (numbers_of ys))) ≡ (not b && (nat_lt k bound && not (list_any (eqb k) (numbers_of xs))))
      on true e f = let same : eqb k x.0 ≡ true = grind (arith, nat_tests) in rw f (rw same (none (nat_lt k bound)))
        where
          none : (a : Bool) → (a && false) ≡ false
          none true = refl
          none false = refl
      on false e f = let differs : eqb k x.0 ≡ false = grind (arith, nat_tests) in rw f (rw differs refl)
