-- A list of which one element is changed, seen through a function of each.
use Rattle.std.proofs.Common.{◌≡◌, ℕ, zero, suc, ◌+◌, ◌<◌, ◌≤◌, List, [], ◌∷◌, ◌++◌, length, map, set, get_or, take, slice_get, Some, ap, sym, ◌∙◌, subst, refl, ⊎_elim, rules, arith}
use Rattle.std.proofs.lemmas.Bool.{cases_lt}
use Rattle.std.proofs.lemmas.Option.{none-some}
use Rattle.std.proofs.lemmas.List.{get_or-set_other}
use Rattle.std.specs.List.{AllWithin}
use Rattle.task_pool.specs.Ways.{appended}

module _ {X Y : Type 0} (f : X → Y) where
  pub map_set : (xs : List X) (k : ℕ) (x d : X) → f x ≡ f (get_or xs k d) → map f (set xs k x) ≡ map f xs
  map_set [] k x d e = refl
  map_set (y ∷ ys) zero x d e = ap (λ z. z ∷ map f ys) e
  map_set (y ∷ ys) (suc k) x d e = ap (λ l. f y ∷ l) (map_set ys k x d e)

  pub at_map : (xs : List X) (k : ℕ) (d : X) (y : Y) → slice_get (map f xs) k ≡ Some y → f (get_or xs k d) ≡ y
  at_map [] k d y e = absurd (cc)
  at_map (x ∷ xs) zero d y e = search rules
  at_map (x ∷ xs) (suc k) d y e = at_map xs k d y (search rules)

module _ {X : Type 0} (f : X → List ℕ) where
  pub map_appended : (xs : List X) (k : ℕ) (x d : X) (token : ℕ) → k < length xs → f x ≡ f (get_or xs k d) ++ token ∷ [] → map f (set xs k x) ≡ appended k token (map f xs)
  map_appended [] k x d token l e = absurd (omega arith)
  map_appended (y ∷ ys) zero x d token l e = ap (λ z. z ∷ map f ys) e
  map_appended (y ∷ ys) (suc k) x d token l e = ap (λ z. f y ∷ z) (map_appended ys k x d token (omega arith) e)

-- what holds of the elements from one place up to another, and of the next, holds up to that
pub one_more : {Y : Type 0} (Q : Y → Type 0) (ys : List Y) (from n : ℕ) → ((y : Y) → slice_get ys n ≡ Some y → Q y) → ((k : ℕ) (y : Y) → from ≤ k → k < n → slice_get ys k ≡ Some y → Q y) → (k : ℕ) (y : Y) → from ≤ k → k < n + 1 → slice_get ys k ≡ Some y → Q y
one_more {Y} Q ys from n next before k y low high at =
    ⊎_elim (λ (h : k < n). before k y low h at)
    (λ (h : n ≤ k). let e : k ≡ n = omega arith in next y (subst (λ (i : ℕ). slice_get ys i ≡ Some y) e at))
    (cases_lt k n)

-- the list with its first elements changed
abbrev pub changed : {X : Type 0} → (X → X) → ℕ → List X → List X
changed f zero xs = xs
changed f (suc k) [] = []
changed f (suc k) (x ∷ xs) = f x ∷ changed f k xs

module _ {X : Type 0} (f : X → X) where
  pub changed_next : (k : ℕ) (xs : List X) (x y : X) → slice_get xs k ≡ Some x → y ≡ f x → set (changed f k xs) k y ≡ changed f (suc k) xs
  changed_next k [] x y e is = absurd (none-some x e)
  changed_next zero (z ∷ zs) x y e is = let i : z ≡ x = cc in ap (λ w. w ∷ zs) (is ∙ ap f (sym i))
  changed_next (suc k) (z ∷ zs) x y e is = ap (λ l. f z ∷ l) (changed_next k zs x y e is)

  pub changed_here : (k : ℕ) (xs : List X) → slice_get (changed f k xs) k ≡ slice_get xs k
  changed_here zero xs = refl
  changed_here (suc k) [] = refl
  changed_here (suc k) (x ∷ xs) = changed_here k xs

  pub changed_all : (xs : List X) → changed f (length xs) xs ≡ map f xs
  changed_all [] = refl
  changed_all (x ∷ xs) = ap (λ l. f x ∷ l) (changed_all xs)

module _ {X Y : Type 0} (f : X → Y) where
  pub take_next : (xs : List X) (k : ℕ) (d : X) → k < length xs → take (suc k) (map f xs) ≡ take k (map f xs) ++ f (get_or xs k d) ∷ []
  take_next [] k d l = absurd (omega arith)
  take_next (x ∷ xs) zero d l = refl
  take_next (x ∷ xs) (suc k) d l = ap (λ z. f x ∷ z) (take_next xs k d (omega arith))

-- what holds of the elements from one on holds of those after it, whatever it becomes
pub within_rest : {X : Type 0} (P : X → Type 0) (xs : List X) (k n : ℕ) (y : X) → AllWithin P xs k n → AllWithin P (set xs k y) (k + 1) n
within_rest P xs k n y h i d low high = subst P (sym (get_or-set_other xs k i y d (λ e. absurd (omega arith)))) (h i d (omega arith) high)

pub take_more : {X Y : Type 0} (f : X → Y) (xs : List X) (k : ℕ) (d : X) (ys : List Y) (y : Y) → k < length xs → map f xs ≡ ys → y ≡ f (get_or xs k d) → take k ys ++ y ∷ [] ≡ take (k + 1) ys
take_more f xs k d ys y l same is =
    let n : suc k ≡ k + 1 = omega arith in
    ap (λ z. take k ys ++ z ∷ []) is ∙ ap (λ zs. take k zs ++ f (get_or xs k d) ∷ []) (sym same) ∙ sym (take_next f xs k d l) ∙ ap (λ zs. take (suc k) zs) same ∙ ap (λ (m : ℕ). take m ys) n
