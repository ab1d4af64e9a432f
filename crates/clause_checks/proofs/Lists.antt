-- Searches in lists.
use Rattle.std.proofs.Common.{◌≡◌, ◌<◌, ◌≤◌, ◌+◌, ◌⊎◌, inl, inr, ℕ, drop, get_or, zero, suc, Bool, true, false, cond, List, [], ◌∷◌, ◌++◌, ◌||◌, map, length, Some, refl, sym, ap, ◌∙◌}
use Rattle.std.specs.List.{list_any, filter, count_by, slice_get, slice_set}
use Rattle.std.proofs.lemmas.List.{at_drop_more, at_drop_all, length-map}
use Rattle.std.proofs.lemmas.List.Sums.{length-filter}

pub list_any-map : {X Y : Type 0} (p : Y → Bool) (f : X → Y) (xs : List X) → list_any p (map f xs) ≡ list_any (λ x. p (f x)) xs
list_any-map p f [] = refl
list_any-map p f (x ∷ xs) = ap (λ b. p (f x) || b) (list_any-map p f xs)

or_false : (b : Bool) → b || false ≡ b
or_false true = refl
or_false false = refl

or_assoc : (a b c : Bool) → a || (b || c) ≡ (a || b) || c
or_assoc true b c = refl
or_assoc false b c = refl

pub list_any-push : {X : Type 0} (p : X → Bool) (xs : List X) (x : X) → list_any p (xs ++ x ∷ []) ≡ list_any p xs || p x
list_any-push p [] x = or_false (p x)
list_any-push p (y ∷ xs) x = ap (λ b. p y || b) (list_any-push p xs x) ∙ or_assoc (p y) (list_any p xs) (p x)

pub or_true : (a b : Bool) → b ≡ true → a || b ≡ true
or_true true b e = refl
or_true false b e = e

pub or_cases : (a b : Bool) → a || b ≡ true → (a ≡ true) ⊎ (b ≡ true)
or_cases true b e = inl refl
or_cases false b e = inr e

pub left_false : (a b : Bool) → a || b ≡ false → a ≡ false
left_false true b e = absurd cc
left_false false b e = refl

pub right_false : (a b : Bool) → a || b ≡ false → b ≡ false
right_false true b e = absurd cc
right_false false b e = e

pub neither : (a b : Bool) → a ≡ false → b ≡ false → a || b ≡ false
neither true b e f = absurd cc
neither false b e f = f

pub not_true : (b : Bool) → (b ≡ true → ⊥) → b ≡ false
not_true true h = absurd (h refl)
not_true false h = refl

-- ---- filters
pub filter-none : {X : Type 0} (p : X → Bool) (xs : List X) → list_any p xs ≡ false → filter p xs ≡ []
filter-none p [] e = refl
filter-none p (x ∷ xs) e = by_first (p x) e (filter-none p xs)
  where
    by_first : (b : Bool) → b || list_any p xs ≡ false → (list_any p xs ≡ false → filter p xs ≡ []) → cond b (x ∷ filter p xs) (filter p xs) ≡ []
    by_first true f h = absurd cc
    by_first false f h = h f

abbrev pub HasFirst : {X : Type 0} → List X → Type 0
HasFirst [] = ⊥
HasFirst (x ∷ xs) = Unit {0}

pub filter-some : {X : Type 0} (p : X → Bool) (xs : List X) → list_any p xs ≡ true → HasFirst (filter p xs)
filter-some p [] e = absurd cc
filter-some p (x ∷ xs) e = by_first (p x) e (filter-some p xs)
  where
    by_first : (b : Bool) → b || list_any p xs ≡ true → (list_any p xs ≡ true → HasFirst (filter p xs)) → HasFirst (cond b (x ∷ filter p xs) (filter p xs))
    by_first true f h = tt
    by_first false f h = h f

-- ---- places
pub get_set : {X : Type 0} (xs : List X) (i : ℕ) (x y : X) → slice_get xs i ≡ Some x → slice_get (slice_set xs i y) i ≡ Some y
get_set [] i x y e = absurd cc
get_set (z ∷ xs) zero x y e = refl
get_set (z ∷ xs) (suc i) x y e = get_set xs i x y e

pub get_set_other : {X : Type 0} (xs : List X) (i j : ℕ) (y : X) → (i ≡ j → ⊥) → slice_get (slice_set xs i y) j ≡ slice_get xs j
get_set_other [] i j y h = refl
get_set_other (z ∷ xs) zero zero y h = absurd (h refl)
get_set_other (z ∷ xs) zero (suc j) y h = refl
get_set_other (z ∷ xs) (suc i) zero y h = refl
get_set_other (z ∷ xs) (suc i) (suc j) y h = get_set_other xs i j y (λ e. h (ap suc e))

filter_mapped : {X Y : Type 0} (p : Y → Bool) (f : X → Y) (xs : List X) → filter p (map f xs) ≡ map f (filter (λ x. p (f x)) xs)
filter_mapped p f [] = refl
filter_mapped {X} {Y} p f (x ∷ xs) = by_first (p (f x)) (filter_mapped p f xs)
  where
    by_first : (b : Bool) → filter p (map f xs) ≡ map f (filter (λ x. p (f x)) xs) → cond b (f x ∷ filter p (map f xs)) (filter p (map f xs)) ≡ map f (cond b (x ∷ filter (λ x. p (f x)) xs) (filter (λ x. p (f x)) xs))
    by_first true h = ap (λ (ys : List Y). f x ∷ ys) h
    by_first false h = h

pub count_mapped : {X Y : Type 0} (p : Y → Bool) (f : X → Y) (xs : List X) → length (filter p (map f xs)) ≡ count_by (λ x. p (f x)) xs
count_mapped p f xs = ap length (filter_mapped p f xs) ∙ length-map (filter (λ x. p (f x)) xs) f ∙ length-filter (λ x. p (f x)) xs

pub drop_front : {X : Type 0} (xs : List X) (i : ℕ) (x : X) → i < length xs → x ≡ get_or xs i x → drop i xs ≡ x ∷ drop (i + 1) xs
drop_front xs i x h e = at_drop_more (λ ys. ys) xs i x h ∙ ap (λ y. y ∷ drop (i + 1) xs) (sym e)

pub drop_none : {X : Type 0} (xs : List X) (i : ℕ) → length xs ≤ i → drop i xs ≡ []
drop_none xs i h = at_drop_all (λ ys. ys) xs i h
