-- Arithmetic, read through equations.
use Rattle.std.specs.Prelude.{◌≡◌, ℕ, zero, suc, ℤ, pos, negsuc, neg_ℤ, ◌+ℤ◌, ◌-ℤ◌, ◌*ℤ◌, ◌/◌, ◌^◌, List, Bool, not, ◌&&◌, Option, Some, None, option_and_then, if◌then◌else◌, int_lt, int_le, int_div, codes, bytes_eq, slice_get}
use Rattle.akl_terms.specs.declared.name.Var.{Var}
use Rattle.akl_terms.specs.declared.program.Test.{Test}
use Rattle.akl_terms.specs.Tree.{Tree, variable, integer, symbol, none, more}
use Rattle.akl_terms.specs.Equal.{Equations, Equal, IsStructured}

pub data Operation : Type 0 where
  plus : Operation
  minus : Operation
  times : Operation
  quotient : Operation
  modulus : Operation

-- the operation of a text
abbrev pub operation_named : List ℕ → Option Operation
operation_named text =
    if bytes_eq text (codes "+") then Some plus
    else if bytes_eq text (codes "-") then Some minus
    else if bytes_eq text (codes "*") then Some times
    else if bytes_eq text (codes "//") then Some quotient
    else if bytes_eq text (codes "mod") then Some modulus
    else None

-- the integers that a program can hold, of 128 bits
abbrev pub in_range : ℤ → Bool
in_range z = int_le (neg_ℤ (pos (2 ^ 127))) z && int_lt z (pos (2 ^ 127))

abbrev pub where_in_range : ℤ → Option ℤ
where_in_range z = if in_range z then Some z else None

-- the greatest integer that isn't above a / b
abbrev pub floor_of : ℤ → ℤ → ℤ
floor_of (pos zero) b = pos 0
floor_of (pos (suc a)) (pos b) = pos (suc a / b)
floor_of (pos (suc a)) (negsuc b) = negsuc (a / suc b)
floor_of (negsuc a) (pos b) = negsuc (a / b)
floor_of (negsuc a) (negsuc b) = pos (suc a / suc b)

abbrev pub unless_zero : ℤ → Option ℤ → Option ℤ
unless_zero (pos zero) v = None
unless_zero b v = v

-- the value of an operation, where it is defined: a quotient is truncated towards zero, and a modulus has the sign of the divisor
abbrev pub calculated : Operation → ℤ → ℤ → Option ℤ
calculated plus a b = where_in_range (a +ℤ b)
calculated minus a b = where_in_range (a -ℤ b)
calculated times a b = where_in_range (a *ℤ b)
calculated quotient a b = unless_zero b (where_in_range (int_div a b))
calculated modulus a b = unless_zero b (where_in_range (a -ℤ (b *ℤ floor_of a b)))

-- the operation of a symbol, by the symbols' texts
unfoldable pub operation_of : List (List ℕ) → ℕ → Option Operation
operation_of symbols f = option_and_then operation_named (slice_get symbols f)

-- the value of a symbol over two values
unfoldable pub value_of : List (List ℕ) → ℕ → ℤ → ℤ → Option ℤ
value_of symbols f x y = option_and_then (λ (o : Operation). calculated o x y) (operation_of symbols f)

-- a symbol over two terms
abbrev pub binary : ℕ → Tree → Tree → Tree
binary f a b = symbol f (more a (more b none))

-- an expression has a value: it is an integer, or an operation over two expressions that is defined at their values
pub data HasValue (symbols : List (List ℕ)) (E : Equations) : Tree → ℤ → Type 0 where
  number : {t : Tree} {z : ℤ} → Equal E t (integer z) → HasValue symbols E t z
  operation : {t a b : Tree} {f : ℕ} {x y z : ℤ} → Equal E t (binary f a b) → HasValue symbols E a x → HasValue symbols E b y
      → value_of symbols f x y ≡ Some z → HasValue symbols E t z

-- an expression waits on a variable: walked depth first, the left operand before the right, the first obstacle is that this
-- variable isn't structured. A term that is met again while it is walked has no value and waits on nothing, since both are finite derivations
pub data WaitsOn (symbols : List (List ℕ)) (E : Equations) : Tree → Var → Type 0 where
  here : {t : Tree} {x : Var} → Equal E t (variable x) → (IsStructured E x → ⊥) → WaitsOn symbols E t x
  in_left : {t a b : Tree} {f : ℕ} {o : Operation} {x : Var} → Equal E t (binary f a b) → operation_of symbols f ≡ Some o
      → WaitsOn symbols E a x → WaitsOn symbols E t x
  in_right : {t a b : Tree} {f : ℕ} {o : Operation} {v : ℤ} {x : Var} → Equal E t (binary f a b) → operation_of symbols f ≡ Some o
      → HasValue symbols E a v → WaitsOn symbols E b x → WaitsOn symbols E t x

-- whether a comparison holds of two values; there is none for `is`
abbrev pub compares : Test → ℤ → ℤ → Option Bool
compares Test.Is x y = None
compares Test.Less x y = Some (int_lt x y)
compares Test.Greater x y = Some (int_lt y x)
compares Test.AtMost x y = Some (int_le x y)
compares Test.AtLeast x y = Some (int_le y x)
compares Test.Same x y = Some (int_le x y && int_le y x)
compares Test.Differs x y = Some (not (int_le x y && int_le y x))

-- what an arithmetic goal comes to: a value for the left side of `is`, or whether a comparison holds
pub data Answer : Type 0 where
  value : ℤ → Answer
  truth : Bool → Answer

pub data Evaluates (symbols : List (List ℕ)) (E : Equations) : Test → Tree → Tree → Answer → Type 0 where
  gives : {l r : Tree} {z : ℤ} → HasValue symbols E r z → Evaluates symbols E Test.Is l r (value z)
  compared : {test : Test} {l r : Tree} {x y : ℤ} {b : Bool} → HasValue symbols E l x → HasValue symbols E r y → compares test x y ≡ Some b
      → Evaluates symbols E test l r (truth b)

-- an arithmetic goal waits on a variable: `is` walks its right side alone, a comparison its left side first
pub data GoalWaitsOn (symbols : List (List ℕ)) (E : Equations) : Test → Tree → Tree → Var → Type 0 where
  right_of_is : {l r : Tree} {x : Var} → WaitsOn symbols E r x → GoalWaitsOn symbols E Test.Is l r x
  left_side : {test : Test} {l r : Tree} {x : Var} → (test ≡ Test.Is → ⊥) → WaitsOn symbols E l x → GoalWaitsOn symbols E test l r x
  right_side : {test : Test} {l r : Tree} {v : ℤ} {x : Var} → (test ≡ Test.Is → ⊥) → HasValue symbols E l v → WaitsOn symbols E r x
      → GoalWaitsOn symbols E test l r x
