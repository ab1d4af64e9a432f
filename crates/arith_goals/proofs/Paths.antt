-- Paths from an expression to the operands that are walked in it: no path of one that ends leads back.
use Rattle.std.proofs.Common.{◌≡◌, ℕ, ℤ, List, Some, refl}
use Rattle.akl_terms.specs.declared.name.Var.{Var}
use Rattle.akl_terms.specs.Tree.{Tree, variable, integer, integer_head, symbol_head}
use Rattle.akl_terms.specs.Equal.{Equations, Equal, same, turned, joined, IsConsistent, IsStructured}
use Rattle.akl_terms.specs.Arithmetic.{Operation, operation_of, binary, HasValue, number, operation, WaitsOn, here, in_left, in_right}
use Rattle.arith_goals.specs.Answers.{IsStuck}
use Rattle.constraint_laws.proofs.WaitsOne.{left_of, right_of, value_waits}

-- an operand that is walked in an expression: the left one, or the right one where the left one has a value
pub data Operand (symbols : List (List ℕ)) (E : Equations) (t u : Tree) : Type 0 where
  to_left : (a b : Tree) (f : ℕ) (o : Operation) → Equal E t (binary f a b) → operation_of symbols f ≡ Some o → Equal E u a → Operand symbols E t u
  to_right : (a b : Tree) (f : ℕ) (o : Operation) (v : ℤ) → Equal E t (binary f a b) → operation_of symbols f ≡ Some o → HasValue symbols E a v → Equal E u b → Operand symbols E t u

-- the walk of an expression ends
data Ends (symbols : List (List ℕ)) (E : Equations) : Tree → Type 0 where
  ends : {t : Tree} → ((u : Tree) → Operand symbols E t u → Ends symbols E u) → Ends symbols E t

-- one operand inside another, one or more
pub data Path (symbols : List (List ℕ)) (E : Equations) : Tree → Tree → Type 0 where
  one : {t u : Tree} → Operand symbols E t u → Path symbols E t u
  further : {t u w : Tree} → Operand symbols E t u → Path symbols E u w → Path symbols E t w

module _ (symbols : List (List ℕ)) (E : Equations) where
  back : {t u w : Tree} → Path symbols E t u → Operand symbols E u w → Path symbols E t w
  back (one s) r = further s (one r)
  back (further s p) r = further s (back p r)

  Operand-to : {t u w : Tree} → Operand symbols E t u → Equal E w u → Operand symbols E t w
  Operand-to (to_left a b f o e i k) q = to_left a b f o e i (joined q k)
  Operand-to (to_right a b f o v e i l k) q = to_right a b f o v e i l (joined q k)

  Path-to : {t u w : Tree} → Path symbols E t u → Equal E w u → Path symbols E t w
  Path-to (one s) q = one (Operand-to s q)
  Path-to (further s p) q = further s (Path-to p q)

  circle : {t : Tree} → Ends symbols E t → Path symbols E t t → ⊥
  circle (ends f) (one s) = circle (f _ s) (one s)
  circle (ends f) (further s p) = circle (f _ s) (back p s)

  module _ (c : IsConsistent E) where
    no_operand : {t u : Tree} {z : ℤ} → Equal E t (integer z) → Operand symbols E t u → ⊥
    no_operand {z = z} k (to_left a b f o e i q) = let h : integer_head z ≡ symbol_head f 2 = c.heads (joined (turned k) e) refl refl in cc
    no_operand {z = z} k (to_right a b f o v e i l q) = let h : integer_head z ≡ symbol_head f 2 = c.heads (joined (turned k) e) refl refl in cc

    either : {s u : Tree} (a b : Tree) (f : ℕ) → Equal E s (binary f a b) → (Equal E u a → Ends symbols E u) → (Equal E u b → Ends symbols E u) → Operand symbols E s u → Ends symbols E u
    either a b f q l r (to_left m n g o e i k) = l (joined k (left_of symbols E c m n a b g f (joined (turned e) q)))
    either a b f q l r (to_right m n g o v e i w k) = r (joined k (right_of symbols E c m n a b g f (joined (turned e) q)))

    value-ends : {t s : Tree} {z : ℤ} → HasValue symbols E t z → Equal E s t → Ends symbols E s
    value-ends (number e) q = ends (λ u p. absurd (no_operand (joined q e) p))
    value-ends (operation {a = a} {b = b} {f = f} e x y w) q = ends (λ u p. either a b f (joined q e) (λ k. value-ends x k) (λ k. value-ends y k) p)

    left_only : {s u : Tree} {x : Var} (a b : Tree) (f : ℕ) → Equal E s (binary f a b) → WaitsOn symbols E a x → (Equal E u a → Ends symbols E u) → Operand symbols E s u → Ends symbols E u
    left_only a b f q w l (to_left m n g o e i k) = l (joined k (left_of symbols E c m n a b g f (joined (turned e) q)))
    left_only a b f q w l (to_right m n g o v e i h k) = absurd (value_waits symbols E c h (left_of symbols E c m n a b g f (joined (turned e) q)) w)

    unstructured : {s u : Tree} {x : Var} → Equal E s (variable x) → (IsStructured E x → ⊥) → Operand symbols E s u → ⊥
    unstructured q n (to_left a b f o k i r) = n (binary f a b, symbol_head f 2, joined (turned q) k, refl)
    unstructured q n (to_right a b f o v k i l r) = n (binary f a b, symbol_head f 2, joined (turned q) k, refl)

    waits-ends : {t s : Tree} {x : Var} → WaitsOn symbols E t x → Equal E s t → Ends symbols E s
    waits-ends (here e n) q = ends (λ u p. absurd (unstructured (joined q e) n p))
    waits-ends (in_left {a = a} {b = b} {f = f} e i w) q = ends (λ u p. left_only a b f (joined q e) w (λ k. waits-ends w k) p)
    waits-ends (in_right {a = a} {b = b} {f = f} e i v w) q = ends (λ u p. either a b f (joined q e) (λ k. value-ends v k) (λ k. waits-ends w k) p)

    -- an expression with a path back to itself comes to nothing
    pub circle-stuck : (t u : Tree) → Path symbols E t u → Equal E t u → IsStuck symbols E t
    circle-stuck t u p q = record {
      no_value = λ z v. circle (value-ends v same) (Path-to p q);
      no_wait = λ x w. circle (waits-ends w same) (Path-to p q);
    }
