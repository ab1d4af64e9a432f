-- What expressions come to, by their operands.
use Rattle.std.proofs.Common.{◌≡◌, ℕ, ℤ, List, Option, Some, None, refl, sym, ◌∙◌, ap}
use Rattle.std.specs.Prelude.{option_and_then}
use Rattle.akl_terms.specs.declared.name.Var.{Var}
use Rattle.akl_terms.specs.Tree.{Tree, Head, integer_head, symbol_head, head_of}
use Rattle.akl_terms.specs.Equal.{Equations, Equal, turned, joined, IsConsistent}
use Rattle.akl_terms.specs.Arithmetic.{Operation, calculated, operation_of, value_of, binary, HasValue, number, operation, WaitsOn, here, in_left, in_right}
use Rattle.constraint_laws.proofs.Values.{HasValue-along, HasValue-one}
use Rattle.constraint_laws.proofs.WaitsOne.{one_symbol, left_of, right_of, value_waits}
use Rattle.arith_goals.specs.Answers.{IsStuck}

unfolding_value : (symbols : List (List ℕ)) (f : ℕ) (o : Operation) (x y : ℤ) → operation_of symbols f ≡ Some o → value_of symbols f x y ≡ calculated o x y
unfolding value_of
unfolding_value symbols f o x y e = ap (option_and_then (λ (p : Operation). calculated p x y)) e

-- a symbol that has a value over two values is an operation
unfolding_operation : (symbols : List (List ℕ)) (f : ℕ) (x y z : ℤ) → value_of symbols f x y ≡ Some z → (o : Operation) × (operation_of symbols f ≡ Some o)
unfolding value_of
unfolding_operation symbols f x y z e = on (operation_of symbols f) refl e
  where
    on : (p : Option Operation) → operation_of symbols f ≡ p → option_and_then (λ (o : Operation). calculated o x y) p ≡ Some z → (o : Operation) × (operation_of symbols f ≡ Some o)
    on None q e = cc
    on (Some o) q e = (o, q)

module _ (symbols : List (List ℕ)) (E : Equations) (c : IsConsistent E) where
  pub WaitsOn-along : {s t : Tree} {x : Var} → Equal E s t → WaitsOn symbols E t x → WaitsOn symbols E s x
  WaitsOn-along e (here f n) = here (joined e f) n
  WaitsOn-along e (in_left f o w) = in_left (joined e f) o w
  WaitsOn-along e (in_right f o v w) = in_right (joined e f) o v w

  -- a term with a head that is no integer and no operation over two operands
  pub other-stuck : (t end : Tree) (h : Head) → Equal E t end → head_of end ≡ Some h → ((z : ℤ) → h ≡ integer_head z → ⊥)
      → ((f : ℕ) (o : Operation) → operation_of symbols f ≡ Some o → h ≡ symbol_head f 2 → ⊥) → IsStuck symbols E t
  other-stuck t end h q e no_integer no_operation = record {
    no_value = λ z v. no_value z v;
    no_wait = λ x w. no_wait x w;
  }
    where
      no_value : (z : ℤ) → HasValue symbols E t z → ⊥
      no_value z (number k) = no_integer z (c.heads (joined (turned q) k) e refl)
      no_value z (operation {f = f} {x = x} {y = y} k u v w) =
          let o : (o : Operation) × (operation_of symbols f ≡ Some o) = unfolding_operation symbols f x y z w in
          no_operation f o.0 o.1 (c.heads (joined (turned q) k) e refl)

      no_wait : (x : Var) → WaitsOn symbols E t x → ⊥
      no_wait x (here k n) = n (end, h, joined (turned k) q, e)
      no_wait x (in_left {f = f} {o = o} k i w) = no_operation f o i (c.heads (joined (turned q) k) e refl)
      no_wait x (in_right {f = f} {o = o} k i v w) = no_operation f o i (c.heads (joined (turned q) k) e refl)

  -- an operation over two operands
  module _ (t a b : Tree) (f : ℕ) (o : Operation) (q : Equal E t (binary f a b)) (i : operation_of symbols f ≡ Some o) where
    pub left-stuck : IsStuck symbols E a → IsStuck symbols E t
    left-stuck s = record { no_value = λ z v. no_value z v; no_wait = λ x w. no_wait x w }
      where
        no_value : (z : ℤ) → HasValue symbols E t z → ⊥
        no_value z (number k) = let h : symbol_head f 2 ≡ integer_head z = c.heads (joined (turned q) k) refl refl in cc
        no_value z (operation {a = m} {b = n} {f = g} {x = x} k u v w) = s.no_value x (HasValue-along (left_of symbols E c a b m n f g (joined (turned q) k)) u)

        no_wait : (x : Var) → WaitsOn symbols E t x → ⊥
        no_wait x (here k n) = n (binary f a b, symbol_head f 2, joined (turned k) q, refl)
        no_wait x (in_left {a = m} {b = n} {f = g} k j w) = s.no_wait x (WaitsOn-along (left_of symbols E c a b m n f g (joined (turned q) k)) w)
        no_wait x (in_right {a = m} {b = n} {f = g} {v = y} k j v w) = s.no_value y (HasValue-along (left_of symbols E c a b m n f g (joined (turned q) k)) v)

    -- the left operand has a value
    module _ (x : ℤ) (l : HasValue symbols E a x) where
      pub right-stuck : IsStuck symbols E b → IsStuck symbols E t
      right-stuck s = record { no_value = λ z v. no_value z v; no_wait = λ y w. no_wait y w }
        where
          no_value : (z : ℤ) → HasValue symbols E t z → ⊥
          no_value z (number k) = let h : symbol_head f 2 ≡ integer_head z = c.heads (joined (turned q) k) refl refl in cc
          no_value z (operation {a = m} {b = n} {f = g} {y = y} k u v w) = s.no_value y (HasValue-along (right_of symbols E c a b m n f g (joined (turned q) k)) v)

          no_wait : (y : Var) → WaitsOn symbols E t y → ⊥
          no_wait y (here k n) = n (binary f a b, symbol_head f 2, joined (turned k) q, refl)
          no_wait y (in_left {a = m} {b = n} {f = g} k j w) = value_waits symbols E c l (left_of symbols E c a b m n f g (joined (turned q) k)) w
          no_wait y (in_right {a = m} {b = n} {f = g} k j v w) = s.no_wait y (WaitsOn-along (right_of symbols E c a b m n f g (joined (turned q) k)) w)

      module _ (y : ℤ) (r : HasValue symbols E b y) where
        pub calculated-value : (z : ℤ) → calculated o x y ≡ Some z → HasValue symbols E t z
        calculated-value z e = operation q l r (unfolding_value symbols f o x y i ∙ e)

        pub undefined-stuck : calculated o x y ≡ None → IsStuck symbols E t
        undefined-stuck e = record { no_value = λ z v. no_value z v; no_wait = λ k w. no_wait k w }
          where
            no_value : (z : ℤ) → HasValue symbols E t z → ⊥
            no_value z (number k) = let h : symbol_head f 2 ≡ integer_head z = c.heads (joined (turned q) k) refl refl in cc
            no_value z (operation {a = m} {b = n} {f = g} {x = x2} {y = y2} k u v w) =
                let p : f ≡ g = one_symbol symbols E c a b m n f g (joined (turned q) k) in
                let px : x ≡ x2 = HasValue-one c l (HasValue-along (left_of symbols E c a b m n f g (joined (turned q) k)) u) in
                let py : y ≡ y2 = HasValue-one c r (HasValue-along (right_of symbols E c a b m n f g (joined (turned q) k)) v) in
                let d : value_of symbols f x y ≡ value_of symbols g x2 y2 = cc in
                let n : None ≡ Some z = sym (unfolding_value symbols f o x y i ∙ e) ∙ d ∙ w in
                cc

            no_wait : (k : Var) → WaitsOn symbols E t k → ⊥
            no_wait k (here d n) = n (binary f a b, symbol_head f 2, joined (turned d) q, refl)
            no_wait k (in_left {a = m} {b = n} {f = g} d j w) = value_waits symbols E c l (left_of symbols E c a b m n f g (joined (turned q) d)) w
            no_wait k (in_right {a = m} {b = n} {f = g} d j v w) = value_waits symbols E c r (right_of symbols E c a b m n f g (joined (turned q) d)) w
