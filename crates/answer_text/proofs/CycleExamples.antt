-- The texts of small cyclic trees.
use Rattle.std.proofs.Common.{◌≡◌, ℕ, zero, suc, List, [], ◌∷◌, ◌++◌, arith, refl, inl, inr, Some, subst}
use Rattle.std.specs.Prelude.{slice_get, codes}
use Rattle.std.specs.Fmt.{decimal}
use Rattle.std.proofs.lemmas.Fmt.{decimal-digits_of}
use Rattle.akl_terms.specs.declared.name.Var.{Var}
use Rattle.akl_terms.specs.Tree.{Tree, variable, symbol, none, more, symbol_head}
use Rattle.akl_terms.specs.Equal.{Equations, Equal, told, same, IsTold}
use Rattle.akl_terms.specs.Solved.{SameIn}
use Rattle.answer_text.specs.Printed.{first, here}
use Rattle.answer_text.specs.Cyclic.{stays, goes, IsCyclic}
use Rattle.answer_text.specs.AnswerLines.{AreAnswerLines, cycle, compound, cell, last, partial, all_written, cycle_line, all_shown, line}
use Rattle.answer_text.specs.Examples.{two_cycles, TwoCyclesLaw, cyclic_list, CyclicListLaw}

-- the number of the first cyclic tree
digit : decimal 1 ≡ 49 ∷ []
digit = decimal-digits_of 1 (omega arith) (omega arith)

-- one argument and two, one step down
one-down : (E : Equations) (n : ℕ) (s t a b : Tree) → Equal E s (symbol 0 (more a none)) → Equal E t (symbol 0 (more b none)) → SameIn (IsTold E) n a b → SameIn (IsTold E) (suc n) s t
one-down E n s t a b p q m = inr (symbol 0 (more a none), symbol 0 (more b none), symbol_head 0 1, p, q, refl, refl, λ k c d i j. at k c d i j)
  where
    at : (k : ℕ) (c d : Tree) → slice_get (a ∷ []) k ≡ Some c → slice_get (b ∷ []) k ≡ Some d → SameIn (IsTold E) n c d
    at zero c d i j = let e : a ≡ c = cc in let f : b ≡ d = cc in subst (λ (z : Tree). SameIn (IsTold E) n z d) e (subst (λ (z : Tree). SameIn (IsTold E) n a z) f m)
    at (suc k) c d i j = cc

two-down : (E : Equations) (n : ℕ) (s a : Tree) → Equal E s (symbol 0 (more a (more a none))) → SameIn (IsTold E) n a a → SameIn (IsTold E) (suc n) s s
two-down E n s a p m = inr (symbol 0 (more a (more a none)), symbol 0 (more a (more a none)), symbol_head 0 2, p, p, refl, refl, λ k c d i j. at k c d i j)
  where
    both : (c d : Tree) → a ≡ c → a ≡ d → SameIn (IsTold E) n c d
    both c d e f = subst (λ (z : Tree). SameIn (IsTold E) n z d) e (subst (λ (z : Tree). SameIn (IsTold E) n a z) f m)

    at : (k : ℕ) (c d : Tree) → slice_get (a ∷ a ∷ []) k ≡ Some c → slice_get (a ∷ a ∷ []) k ≡ Some d → SameIn (IsTold E) n c d
    at zero c d i j = let e : a ≡ c = cc in let f : a ≡ d = cc in both c d e f
    at (suc zero) c d i j = let e : a ≡ c = cc in let f : a ≡ d = cc in both c d e f
    at (suc (suc k)) c d i j = cc

module _ (x y : Var) where
  is-x : Equal (two_cycles x y) (variable x) (symbol 0 (more (variable x) none))
  is-x = told (inl (refl, refl))

  is-y : Equal (two_cycles x y) (variable y) (symbol 0 (more (symbol 0 (more (variable y) none)) none))
  is-y = told (inr (inl (refl, refl)))

  x-x : (n : ℕ) → SameIn (IsTold (two_cycles x y)) n (variable x) (variable x)
  x-x zero = tt
  x-x (suc n) = one-down (two_cycles x y) n (variable x) (variable x) (variable x) (variable x) is-x is-x (x-x n)

  mutual
    y-y : (n : ℕ) → SameIn (IsTold (two_cycles x y)) n (variable y) (variable y)
    y-y zero = tt
    y-y (suc n) = one-down (two_cycles x y) n (variable y) (variable y) (symbol 0 (more (variable y) none)) (symbol 0 (more (variable y) none)) is-y is-y (below-y n)

    below-y : (n : ℕ) → SameIn (IsTold (two_cycles x y)) n (symbol 0 (more (variable y) none)) (symbol 0 (more (variable y) none))
    below-y zero = tt
    below-y (suc n) = one-down (two_cycles x y) n (symbol 0 (more (variable y) none)) (symbol 0 (more (variable y) none)) (variable y) (variable y) same same (y-y n)

  mutual
    y-x : (n : ℕ) → SameIn (IsTold (two_cycles x y)) n (variable y) (variable x)
    y-x zero = tt
    y-x (suc n) = one-down (two_cycles x y) n (variable y) (variable x) (symbol 0 (more (variable y) none)) (variable x) is-y is-x (below-x n)

    below-x : (n : ℕ) → SameIn (IsTold (two_cycles x y)) n (symbol 0 (more (variable y) none)) (variable x)
    below-x zero = tt
    below-x (suc n) = one-down (two_cycles x y) n (symbol 0 (more (variable y) none)) (variable x) (variable y) (variable x) same is-x (y-x n)

  cyclic-x : IsCyclic (two_cycles x y) (variable x)
  cyclic-x = record { at = 0; below = []; met = variable x; leads = goes 0 is-x refl stays; again = x-x }

  cyclic-y : IsCyclic (two_cycles x y) (variable y)
  cyclic-y = record { at = 0; below = 0 ∷ []; met = variable y; leads = goes 0 is-y refl (goes 0 same refl stays); again = y-y }

pub two_cycles_text : TwoCyclesLaw
two_cycles_text x y = subst
    (λ (d : List ℕ). AreAnswerLines (codes "f" ∷ []) (two_cycles x y) ((codes "X", variable x) ∷ (codes "Y", variable y) ∷ [])
    (codes "X = R" ++ d ++ 10 ∷ (codes "Y = R" ++ d ++ 10 ∷ (82 ∷ d ++ codes " = " ++ (codes "f(R" ++ d ++ codes ")") ++ 10 ∷ []))))
    digit
    (line (cycle (cyclic-x x y) (first (x-x x y))) (line (cycle (cyclic-y x y) (here (y-x x y))) (all_shown (cycle_line refl (compound (is-x x y) refl refl (last (cycle (cyclic-x x y) (here (x-x x y))))) (all_written refl)))))

module _ (x : Var) where
  is-list : Equal (cyclic_list x) (variable x) (symbol 0 (more (variable x) (more (variable x) none)))
  is-list = told (inl (refl, refl))

  list-itself : (n : ℕ) → SameIn (IsTold (cyclic_list x)) n (variable x) (variable x)
  list-itself zero = tt
  list-itself (suc n) = two-down (cyclic_list x) n (variable x) (variable x) is-list (list-itself n)

  list-cyclic : IsCyclic (cyclic_list x) (variable x)
  list-cyclic = record { at = 0; below = []; met = variable x; leads = goes 0 is-list refl stays; again = list-itself }

pub cyclic_list_text : CyclicListLaw
cyclic_list_text x = subst
    (λ (d : List ℕ). AreAnswerLines (codes "." ∷ []) (cyclic_list x) ((codes "X", variable x) ∷ []) (codes "X = R" ++ d ++ 10 ∷ (82 ∷ d ++ codes " = " ++ (codes "[R" ++ d ++ (codes "|R" ++ d ++ codes "]")) ++ 10 ∷ [])))
    digit
    (line (cycle (list-cyclic x) (first (list-itself x)))
    (all_shown (cycle_line refl (cell (is-list x) refl (cycle (list-cyclic x) (here (list-itself x))) (partial (inr (list-cyclic x)) (cycle (list-cyclic x) (here (list-itself x))))) (all_written refl))))
