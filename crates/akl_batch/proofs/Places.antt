-- Lists that fit each other place by place.
use Rattle.std.proofs.Common.{◌≡◌, ℕ, zero, suc, List, [], ◌∷◌, ◌++◌, length, map, Option, Some, None, IfSome, Global, refl, sym, ap, subst, ◌∙◌, append_assoc, append-nil, arith}
use Rattle.std.specs.List.{All, AllZip, slice_get}
use Rattle.std.specs.Vec.Iter.{into_iter_items, into_iter_len}
use Rattle.std.specs.declared.vec.IntoIter.{IntoIter}
use Rattle.std.proofs.lemmas.List.Elements.{All-nil, All-cons, All-head, All-tail}
use Rattle.std.proofs.Math.ListN.{set}

some_same : {X : Type 0} {x y : X} → Some x ≡ Some y → x ≡ y
some_same e = cc

none_some : {X : Type 0} {x : X} → None ≡ Some x → ⊥
none_some e = cc

-- one place of the second list changes
pub zip_set : {A B : Type 0} (R : A → B → Type 0) (xs : List A) (ys : List B) (k : ℕ) (x : A) (y : B) → slice_get xs k ≡ Some x → R x y → AllZip R xs ys → AllZip R xs (set ys k y)
zip_set R [] ys k x y at r z = absurd (none_some at)
zip_set R (a ∷ xs) [] k x y at r z = absurd z
zip_set {A} R (a ∷ xs) (b ∷ ys) zero x y at r z = (subst (λ (v : A). R v y) (sym (some_same at)) r, z.1)
zip_set R (a ∷ xs) (b ∷ ys) (suc k) x y at r z = (z.0, zip_set R xs ys k x y at r z.1)

-- what stands at one place of both
pub zip_at : {A B : Type 0} (R : A → B → Type 0) (xs : List A) (ys : List B) (k : ℕ) (x : A) (y : B) → slice_get xs k ≡ Some x → slice_get ys k ≡ Some y → AllZip R xs ys → R x y
zip_at R [] ys k x y at bt z = absurd (none_some at)
zip_at R (a ∷ xs) [] k x y at bt z = absurd z
zip_at {A} {B} R (a ∷ xs) (b ∷ ys) zero x y at bt z = subst (λ (v : A). R v y) (some_same at) (subst (λ (w : B). R a w) (some_same bt) z.0)
zip_at R (a ∷ xs) (b ∷ ys) (suc k) x y at bt z = zip_at R xs ys k x y at bt z.1

-- the relation is of what the elements of the first list have
pub zip_map : {A B C : Type 0} (R : B → C → Type 0) (f : A → B) (xs : List A) (ys : List C) → AllZip (λ x y. R (f x) y) xs ys → AllZip R (map f xs) ys
zip_map R f [] [] z = z
zip_map R f [] (y ∷ ys) z = absurd z
zip_map R f (x ∷ xs) [] z = absurd z
zip_map R f (x ∷ xs) (y ∷ ys) z = (z.0, zip_map R f xs ys z.1)

-- empty places fit
pub zip_none : {A B : Type 0} (P : A → B → Type 0) (xs : List A) (ys : List (Option B)) → length ys ≡ length xs → All (λ y. y ≡ None) ys → AllZip (λ x y. IfSome y (P x)) xs ys
zip_none P [] [] n h = tt
zip_none P [] (y ∷ ys) n h = absurd (omega (arith, n))
zip_none P (x ∷ xs) [] n h = absurd (omega (arith, n))
zip_none {A} {B} P (x ∷ xs) (y ∷ ys) n h =
    let first : y ≡ None = All-head (λ (z : Option B). z ≡ None) y ys h in
    (subst (λ (z : Option B). IfSome z (P x)) (sym first) tt, zip_none P xs ys (omega (arith, n)) (All-tail (λ (z : Option B). z ≡ None) y ys h))

-- ---- parts of lists all of whose elements are so
pub all_front : {A : Type 0} (P : A → Type 0) (xs ys : List A) → All P (xs ++ ys) → All P xs
all_front P [] ys h = All-nil P
all_front P (x ∷ xs) ys h = All-cons P x xs (All-head P x (xs ++ ys) h) (all_front P xs ys (All-tail P x (xs ++ ys) h))

pub all_next : {A : Type 0} (P : A → Type 0) (xs : List A) (x : A) (ys : List A) → All P (xs ++ x ∷ ys) → P x
all_next P [] x ys h = All-head P x ys h
all_next P (w ∷ xs) x ys h = all_next P xs x ys (All-tail P w (xs ++ x ∷ ys) h)

-- ---- a loop over the values of a vector

no_length : {A : Type 0} (xs : List A) → length xs ≡ 0 → xs ≡ []
no_length [] n = refl
no_length (x ∷ xs) n = absurd (omega (arith, n))

-- where no value is to come, all were there
pub all_yielded : {A : Type 0} (done all : List A) (it : IntoIter A Global) → done ++ into_iter_items it ≡ all → into_iter_len it ≡ 0 → done ≡ all
all_yielded {A} done all it whole none = sym (append-nil done) ∙ ap (λ (xs : List A). done ++ xs) (sym (no_length (into_iter_items it) (sym it.rest.ok.0 ∙ none))) ∙ whole

-- one more value was there
pub one_yielded : {A : Type 0} (done : List A) (one : A) (rest all : List A) (it : IntoIter A Global) → done ++ into_iter_items it ≡ all → into_iter_items it ≡ one ∷ rest → (done ++ one ∷ []) ++ rest ≡ all
one_yielded {A} done one rest all it whole next = append_assoc done (one ∷ []) rest ∙ ap (λ (xs : List A). done ++ xs) (sym next) ∙ whole
