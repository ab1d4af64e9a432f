-- Sizes of lists, and of what a loop has passed.
use Rattle.std.proofs.Common.{◌≡◌, ℕ, zero, suc, ◌+◌, ◌<◌, ◌≤◌, List, [], ◌∷◌, ◌++◌, length, map, take, drop, get_or, refl, sym, ap, subst, ◌∙◌, arith}
use Rattle.std.specs.Prelude.{All}
use Rattle.std.proofs.lemmas.List.{map_push, take_more}
use Rattle.std.proofs.lemmas.List.Elements.{All-head, All-tail}
use Rattle.term_syntax.specs.Tree.{Step, trees, steps}
use Rattle.akl_syntax.specs.Goals.{goals}
use Rattle.akl_syntax.specs.Sizes.{goal_size, goals_size, clause_size, clauses_size}
use Rattle.term_syntax.specs.Sizes.{tree_size, trees_size, steps_size}

-- a list's size is the sum of its elements'
pub record IsSum {A : Type 0} (f : A → ℕ) (F : List A → ℕ) : Type 0 where
  pub none : F [] ≡ 0
  pub one_more : (x : A) (xs : List A) → F (x ∷ xs) ≡ f x + F xs

pub trees_sum : IsSum tree_size (λ ts. trees_size (trees ts))
trees_sum = record { none = refl; one_more = λ x xs. refl }

pub steps_sum : IsSum (λ (s : Step). tree_size s.right) (λ ss. steps_size (steps ss))
steps_sum = record { none = refl; one_more = λ x xs. refl }

pub goals_sum : IsSum goal_size (λ gs. goals_size (goals gs))
goals_sum = record { none = refl; one_more = λ x xs. refl }

pub clauses_sum : IsSum clause_size clauses_size
clauses_sum = record { none = refl; one_more = λ x xs. refl }

pub both : {A : Type 0} {f : A → ℕ} {F : List A → ℕ} → IsSum f F → (xs ys : List A) → F (xs ++ ys) ≡ F xs + F ys
both s [] ys = omega (arith, s.none)
both s (x ∷ xs) ys = omega (arith, s.one_more x xs, s.one_more x (xs ++ ys), both s xs ys)

pub taken_within : {A B : Type 0} {f : B → ℕ} {F : List B → ℕ} → IsSum f F → (g : A → B) (xs : List A) (n : ℕ) → F (map g (take n xs)) ≤ F (map g xs)
taken_within s g [] zero = omega arith
taken_within s g [] (suc n) = omega arith
taken_within s g (x ∷ xs) zero = omega (arith, s.none)
taken_within s g (x ∷ xs) (suc n) = omega (arith, s.one_more (g x) (map g (take n xs)), s.one_more (g x) (map g xs), taken_within s g xs n)

dropped_within : {A B : Type 0} {f : B → ℕ} {F : List B → ℕ} → IsSum f F → (g : A → B) (xs : List A) (n : ℕ) → F (map g (drop n xs)) ≤ F (map g xs)
dropped_within s g [] zero = omega arith
dropped_within s g [] (suc n) = omega arith
dropped_within s g (x ∷ xs) zero = omega arith
dropped_within s g (x ∷ xs) (suc n) = omega (arith, s.one_more (g x) (map g xs), dropped_within s g xs n)

-- with the next element
pub more_taken : {A B : Type 0} (g : A → B) (xs : List A) (i : ℕ) (x : A) → i < length xs → x ≡ get_or xs i x → map g (take (i + 1) xs) ≡ map g (take i xs) ++ g x ∷ []
more_taken g xs i x h e = ap (map g) (take_more xs i x h) ∙ map_push g (take i xs) _ ∙ ap (λ z. map g (take i xs) ++ g z ∷ []) (sym e)

pub one_dropped : {A B : Type 0} (g : A → B) (xs : List A) (i : ℕ) (x : A) → i < length xs → x ≡ get_or xs i x → map g (drop i xs) ≡ g x ∷ map g (drop (suc i) xs)
one_dropped g [] i x h e = absurd (omega arith)
one_dropped g (y ∷ xs) zero x h e = ap (λ z. g z ∷ map g xs) (sym e)
one_dropped g (y ∷ xs) (suc i) x h e = one_dropped g xs i x (omega arith) e

-- what was passed and the next are no more than all
pub next_taken : {A B : Type 0} {f : B → ℕ} {F : List B → ℕ} → IsSum f F → (g : A → B) (xs : List A) (i : ℕ) (x : A) → i < length xs → x ≡ get_or xs i x → F (map g (take i xs)) + f (g x) ≤ F (map g xs)
next_taken {F = F} s g xs i x h e = omega (arith, taken_within s g xs (i + 1), ap F (more_taken g xs i x h e), both s (map g (take i xs)) (g x ∷ []), s.one_more (g x) [], s.none)

pub next_dropped : {A B : Type 0} {f : B → ℕ} {F : List B → ℕ} → IsSum f F → (g : A → B) (xs : List A) (i : ℕ) (x : A) → i < length xs → x ≡ get_or xs i x → F (map g (drop (suc i) xs)) + f (g x) ≤ F (map g xs)
next_dropped {F = F} s g xs i x h e = omega (arith, dropped_within s g xs i, ap F (one_dropped g xs i x h e), s.one_more (g x) (map g (drop (suc i) xs)))

-- what holds of all holds of one that a loop comes to
pub mapped_all : {A B : Type 0} (P : B → Type 0) (g : A → B) (xs : List A) (i : ℕ) (x : A) → i < length xs → x ≡ get_or xs i x → All P (map g xs) → P (g x)
mapped_all {A} P g xs i x h e all = subst (λ z. P (g z)) (sym e) (at xs i h all)
  where
    at : (ys : List A) (k : ℕ) → k < length ys → All P (map g ys) → P (g (get_or ys k x))
    at [] k l a = absurd (omega arith)
    at (y ∷ ys) zero l a = All-head P (g y) (map g ys) a
    at (y ∷ ys) (suc k) l a = at ys k (omega arith) (All-tail P (g y) (map g ys) a)
