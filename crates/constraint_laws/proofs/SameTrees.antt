-- Terms that are the same trees.
use Rattle.std.proofs.Common.{◌≡◌, ℕ, ℤ, zero, suc, Some, sym, subst, ◌⊎◌, inl, inr, refl}
use Rattle.std.specs.Prelude.{slice_get}
use Rattle.akl_terms.specs.declared.name.Name.{Name}
use Rattle.akl_terms.specs.declared.name.Var.{Var}
use Rattle.akl_terms.specs.Tree.{Tree, variable, integer, port, Head, integer_head, port_head, symbol_head, head_of, arguments}
use Rattle.akl_terms.specs.Equal.{Equations, IsTold, Equal, same, turned, joined, inside, IsConsistent, IsStructured}
use Rattle.akl_terms.specs.Solved.{SameIn, SameTree}
use Rattle.akl_terms.specs.Arithmetic.{binary}
use Rattle.akl_terms.proofs.StandingLaws.{same_equal}
use Rattle.akl_terms.proofs.Arguments.{same_value}
use Rattle.constraint_laws.proofs.Grown.{Headed, headed_or}
use Rattle.constraint_laws.proofs.ValuesGrow.{integer_of, binary_of, port_of}

-- equal terms are the same tree
pub equal_same : (E : Equations) (n : ℕ) (s t : Tree) → Equal E s t → SameIn (IsTold E) n s t
equal_same E zero s t e = tt
equal_same E (suc n) s t e = on (headed_or E s) (λ a b p. equal_same E n a b p)
  where
    on : Headed E s ⊎ (Headed E s → ⊥) → ((a b : Tree) → Equal E a b → SameIn (IsTold E) n a b) → SameIn (IsTold E) (suc n) s t
    on (inl w) low = inr (w.0, w.0, w.1, w.2, joined (turned e) w.2, w.3, w.3, λ k a b p q. low a b (subst (λ (z : Tree). Equal E a z) (same_value p q) same))
    on (inr f) low = inl (e, λ u h i x. f (u, h, i, x))

-- what has the tree of a term with a head has a head
same_headed : (E : Equations) (s t : Tree) (h : Head) → head_of t ≡ Some h → SameTree (IsTold E) s t → Headed E s
same_headed E s t h e m = on (m 1)
  where
    on : SameIn (IsTold E) 1 s t → Headed E s
    on (inl w) = absurd (w.1 t h w.0 e)
    on (inr w) = (w.0, w.2, w.3, w.5)

-- where the same trees of E are the same in F
module _ (E F : Equations) (map : (s t : Tree) → SameTree (IsTold E) s t → SameTree (IsTold F) s t) where
  pub headed_to : (s : Tree) → Headed E s → Headed F s
  headed_to s w = same_headed F s w.0 w.1 w.3 (map s w.0 (λ n. equal_same E n s w.0 w.2))

  pub equal_to : (s t : Tree) → (Headed F s → ⊥) → Equal E s t → Equal F s t
  equal_to s t n e = same_equal s t (map s t (λ k. equal_same E k s t e)) (λ u h w x. n (u, h, w, x))

-- what is equal to terms that are the same tree is the same tree
pub same_along : (E : Equations) (n : ℕ) (r s t u : Tree) → Equal E r s → Equal E t u → SameIn (IsTold E) n s t → SameIn (IsTold E) n r u
same_along E zero r s t u p q m = tt
same_along E (suc n) r s t u p q (inl w) = inl (joined p (joined w.0 q), λ v h e i. w.1 v h (joined (turned p) e) i)
same_along E (suc n) r s t u p q (inr w) = inr (w.0, w.1, w.2, joined p w.3, joined (turned q) w.4, w.5, w.6, w.7)

-- down to a depth, what is the same tree as a term with a head is equal to one with that head, and so are their arguments
same_agree : (E : Equations) → IsConsistent E → (n : ℕ) (s t : Tree) (h : Head) → head_of t ≡ Some h → SameIn (IsTold E) (suc n) s t
    → (u v : Tree) × Equal E s u × Equal E t v × (head_of u ≡ Some h) × (head_of v ≡ Some h)
    × ((k : ℕ) (a b : Tree) → slice_get (arguments u) k ≡ Some a → slice_get (arguments v) k ≡ Some b → SameIn (IsTold E) n a b)
same_agree E c n s t h e (inl w) = absurd (w.1 t h w.0 e)
same_agree E c n s t h e (inr (u, v, g, p, q, i, j, k)) =
    let r : h ≡ g = c.heads q e j in (u, v, p, q, subst (λ (x : Head). head_of u ≡ Some x) (sym r) i, subst (λ (x : Head). head_of v ≡ Some x) (sym r) j, k)

-- what is the same tree as an integer, a port or a variable that isn't structured is equal to it
pub same_integer : (E : Equations) → IsConsistent E → (s : Tree) (z : ℤ) → SameTree (IsTold E) s (integer z) → Equal E s (integer z)
same_integer E c s z m = let w : _ = same_agree E c 0 s (integer z) (integer_head z) refl (m 1) in subst (λ (u : Tree). Equal E s u) (integer_of w.0 z w.4) w.2

pub same_port : (E : Equations) → IsConsistent E → (s : Tree) (p : Name) → SameTree (IsTold E) s (port p) → Equal E s (port p)
same_port E c s p m = let w : _ = same_agree E c 0 s (port p) (port_head p) refl (m 1) in subst (λ (u : Tree). Equal E s u) (port_of w.0 p w.4) w.2

pub same_variable : (E : Equations) (s : Tree) (x : Var) → (IsStructured E x → ⊥) → SameTree (IsTold E) s (variable x) → Equal E s (variable x)
same_variable E s x n m = on (m 1)
  where
    on : SameIn (IsTold E) 1 s (variable x) → Equal E s (variable x)
    on (inl w) = w.0
    on (inr w) = absurd (n (w.1, w.2, w.4, w.6))

-- what is the same tree as a symbol over two terms is equal to the symbol over two that are the same trees as these
pub same_binary : (E : Equations) → IsConsistent E → (s a b : Tree) (f : ℕ) → SameTree (IsTold E) s (binary f a b)
    → (x y : Tree) × Equal E s (binary f x y) × SameTree (IsTold E) x a × SameTree (IsTold E) y b
same_binary E c s a b f m = (first.0, first.1, first.2, λ n. (deeper n).0, λ n. (deeper n).1)
  where
    operands : (n : ℕ) → (x y v w : Tree) × Equal E s (binary f x y) × Equal E (binary f a b) (binary f v w) × SameIn (IsTold E) n x v × SameIn (IsTold E) n y w
    operands n =
        let t : _ = same_agree E c n s (binary f a b) (symbol_head f 2) refl (m (suc n)) in
        let i : (x y : Tree) × (t.0 ≡ binary f x y) = binary_of t.0 f t.4 in
        let j : (v w : Tree) × (t.1 ≡ binary f v w) = binary_of t.1 f t.5 in
        let k : (o : ℕ) (x y : Tree) → slice_get (arguments (binary f i.0 i.1)) o ≡ Some x → slice_get (arguments (binary f j.0 j.1)) o ≡ Some y → SameIn (IsTold E) n x y =
        subst (λ (u : Tree). (o : ℕ) (x y : Tree) → slice_get (arguments u) o ≡ Some x → slice_get (arguments (binary f j.0 j.1)) o ≡ Some y → SameIn (IsTold E) n x y) i.2
        (subst (λ (u : Tree). (o : ℕ) (x y : Tree) → slice_get (arguments t.0) o ≡ Some x → slice_get (arguments u) o ≡ Some y → SameIn (IsTold E) n x y) j.2 t.6) in
        (i.0, i.1, j.0, j.1, subst (λ (u : Tree). Equal E s u) i.2 t.2, subst (λ (u : Tree). Equal E (binary f a b) u) j.2 t.3, k 0 i.0 j.0 refl refl, k 1 i.1 j.1 refl refl)

    first : (x y : Tree) × Equal E s (binary f x y)
    first = let o : _ = operands 0 in (o.0, o.1, o.4)

    left : (x y v w : Tree) → Equal E (binary f x y) (binary f v w) → Equal E x v
    left x y v w e = inside {h = symbol_head f 2} 0 e refl refl refl refl

    right : (x y v w : Tree) → Equal E (binary f x y) (binary f v w) → Equal E y w
    right x y v w e = inside {h = symbol_head f 2} 1 e refl refl refl refl

    deeper : (n : ℕ) → SameIn (IsTold E) n first.0 a × SameIn (IsTold E) n first.1 b
    deeper n =
        let o : (x y v w : Tree) × Equal E s (binary f x y) × Equal E (binary f a b) (binary f v w) × SameIn (IsTold E) n x v × SameIn (IsTold E) n y w = operands n in
        let here : Equal E (binary f first.0 first.1) (binary f o.0 o.1) = joined (turned first.2) o.4 in
        let there : Equal E (binary f o.2 o.3) (binary f a b) = turned o.5 in (
          same_along E n first.0 o.0 o.2 a (left first.0 first.1 o.0 o.1 here) (left o.2 o.3 a b there) o.6,
          same_along E n first.1 o.1 o.3 b (right first.0 first.1 o.0 o.1 here) (right o.2 o.3 a b there) o.7,
        )
