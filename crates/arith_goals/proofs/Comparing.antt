-- What arithmetic goals come to, by their sides.
use Rattle.std.proofs.Common.{◌≡◌, ℕ, ℤ, List, refl}
use Rattle.akl_terms.specs.declared.name.Var.{Var}
use Rattle.akl_terms.specs.declared.program.Test.{Test}
use Rattle.akl_terms.specs.Tree.{Tree}
use Rattle.akl_terms.specs.Equal.{Equations, same, IsConsistent}
use Rattle.akl_terms.specs.Arithmetic.{HasValue, Answer, Evaluates, gives, compared, GoalWaitsOn, right_of_is, left_side, right_side}
use Rattle.arith_goals.specs.Answers.{IsStuck, IsGoalStuck}
use Rattle.constraint_laws.proofs.WaitsOne.{value_waits}

module _ (symbols : List (List ℕ)) (E : Equations) (l r : Tree) where
  pub is-stuck : IsStuck symbols E r → IsGoalStuck symbols E Test.Is l r
  is-stuck s = record { no_answer = λ a e. no_answer a e; no_wait = λ x w. no_wait x w }
    where
      no_answer : (a : Answer) → Evaluates symbols E Test.Is l r a → ⊥
      no_answer a (gives {z = z} u) = s.no_value z u
      no_answer a (compared u v e) = cc

      no_wait : (x : Var) → GoalWaitsOn symbols E Test.Is l r x → ⊥
      no_wait x (right_of_is w) = s.no_wait x w
      no_wait x (left_side n w) = n refl
      no_wait x (right_side n v w) = n refl

  module _ (test : Test) (n : test ≡ Test.Is → ⊥) where
    pub left-stuck : IsStuck symbols E l → IsGoalStuck symbols E test l r
    left-stuck s = record { no_answer = λ a e. no_answer a n e; no_wait = λ x w. no_wait x n w }
      where
        no_answer : {test : Test} (a : Answer) → (test ≡ Test.Is → ⊥) → Evaluates symbols E test l r a → ⊥
        no_answer a n (gives u) = n refl
        no_answer a n (compared {x = x} u v e) = s.no_value x u

        no_wait : {test : Test} (x : Var) → (test ≡ Test.Is → ⊥) → GoalWaitsOn symbols E test l r x → ⊥
        no_wait x n (right_of_is w) = n refl
        no_wait x n (left_side m w) = s.no_wait x w
        no_wait x n (right_side {v = v} m u w) = s.no_value v u

    pub right-stuck : (c : IsConsistent E) (v : ℤ) → HasValue symbols E l v → IsStuck symbols E r → IsGoalStuck symbols E test l r
    right-stuck c v h s = record { no_answer = λ a e. no_answer a n e; no_wait = λ x w. no_wait x n w }
      where
        no_answer : {test : Test} (a : Answer) → (test ≡ Test.Is → ⊥) → Evaluates symbols E test l r a → ⊥
        no_answer a n (gives u) = n refl
        no_answer a n (compared {y = y} u w e) = s.no_value y w

        no_wait : {test : Test} (x : Var) → (test ≡ Test.Is → ⊥) → GoalWaitsOn symbols E test l r x → ⊥
        no_wait x n (right_of_is w) = n refl
        no_wait x n (left_side m w) = value_waits symbols E c h same w
        no_wait x n (right_side m u w) = s.no_wait x w
