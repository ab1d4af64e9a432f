-- What the walk does in one turn. Only the walk's own functions promise this: what an expression comes to is said without it.
use Rattle.std.specs.Prelude.{◌≡◌, ℤ, ◌+◌, ◌<◌, ◌^◌, List, [], ◌∷◌, ◌++◌, Option, None, Some, Bool, cond, ◌&&◌, ◌==◌}
use Rattle.std.specs.Map.{lookup}
use Rattle.akl_terms.specs.declared.name.Var.{Var}
use Rattle.akl_terms.specs.declared.term.Term.{Term}
use Rattle.akl_terms.specs.Names.{same_name}
use Rattle.akl_terms.specs.Template.{Template, tree}
use Rattle.akl_terms.specs.Arithmetic.{calculated}
use Rattle.rational_unify.specs.Known.{end_of}
use Rattle.arith_goals.specs.declared.expression.Place.{Place}
use Rattle.arith_goals.specs.declared.expression.Application.{Application}
use Rattle.arith_goals.specs.declared.expression.Expression.TheVariants as expression
use Rattle.arith_goals.specs.declared.walk.Walk.{Walk}
use Rattle.arith_goals.specs.declared.walk.Walking.{Walking}
use Rattle.arith_goals.specs.declared.walk.Walking.TheVariants.{Left, Right}
use Rattle.arith_goals.specs.declared.walk.Step.{Step}
use Rattle.arith_goals.specs.declared.walk.Step.TheVariants.{Enter, Leave}
use Rattle.arith_goals.specs.declared.walk.Turn.{Turn}
use Rattle.arith_goals.specs.declared.walk.Turn.TheVariants.{Go, Stop}
use Rattle.arith_goals.specs.declared.walk.Progress.{Progress}
use Rattle.arith_goals.specs.declared.walk.Progress.TheVariants.{Ahead, Begun, Value}
use Rattle.arith_goals.specs.declared.walk.Walked.TheVariants.{Is, Waits, Never}
use Rattle.arith_goals.specs.Operations.{meaning}
use Rattle.arith_goals.specs.Expressions.{IsExpression}

-- the same node under the same frame
abbrev pub same_place : Place → Place → Bool
same_place a b = (a.node == b.node) && same_name a.frame b.frame

-- what isn't kept is ahead
abbrev pub or_ahead : Option Progress → Progress
or_ahead None = Ahead
or_ahead (Some p) = p

-- how far the operation at a place is
abbrev pub progress_at : Walk → Place → Progress
progress_at w p = or_ahead (lookup (same_place p) w.progress.entries)

-- nothing changes
pub record IsSame (old new : Walk) : Type 0 where
  pub walking : new.walking.items ≡ old.walking.items
  pub kept : (p : Place) → progress_at new p ≡ progress_at old p
  pub begun : new.begun ≡ old.begun

-- how far the operation at a place is, and nothing else, changes
pub record Keeps (old new : Walk) (place : Place) (progress : Progress) : Type 0 where
  pub walking : new.walking ≡ old.walking
  pub kept : (p : Place) → progress_at new p ≡ cond (same_place place p) progress (progress_at old p)
  pub begun : new.begun ≡ old.begun

-- an operation is entered: its value was kept, or it is inside itself, or its left operand is next
pub data Begins (old new : Walk) (of : Application) : Turn → Type 0 where
  known : {z : ℤ} → progress_at old of.place ≡ Value z → IsSame old new → Begins old new of (Go (Leave z))
  inside_itself : progress_at old of.place ≡ Begun → Begins old new of (Stop Never)
  begins : progress_at old of.place ≡ Ahead → new.walking.items ≡ old.walking.items ++ Left of ∷ []
      → ((p : Place) → progress_at new p ≡ cond (same_place of.place p) Begun (progress_at old p)) → new.begun ≡ old.begun + 1 → new.begun < 2 ^ 64
      → Begins old new of (Go (Enter of.left))

-- an expression is entered, by what its chain ends with
pub data Enters (t : Template) (bs : List (Var × Term)) (old new : Walk) (term : Term) : Turn → Type 0 where
  number : {z : ℤ} → IsExpression t (end_of t.nodes bs (tree t.nodes term)) (expression.Number z) → IsSame old new → Enters t bs old new term (Go (Leave z))
  free : {x : Var} → IsExpression t (end_of t.nodes bs (tree t.nodes term)) (expression.Free x) → Enters t bs old new term (Stop (Waits x))
  other : IsExpression t (end_of t.nodes bs (tree t.nodes term)) expression.Other → Enters t bs old new term (Stop Never)
  operation : {of : Application} {turn : Turn} → IsExpression t (end_of t.nodes bs (tree t.nodes term)) (expression.Apply of) → Begins old new of turn → Enters t bs old new term turn

-- an operand is left with its value: nothing is around it, or the right operand is next, or the operation is undefined at its values, or it has a value itself
pub data Leaves (old new : Walk) (z : ℤ) : Turn → Type 0 where
  last : old.walking.items ≡ [] → Leaves old new z (Stop (Is z))
  to_right : (around : List Walking) (of : Application) → old.walking.items ≡ around ++ Left of ∷ [] → new.walking.items ≡ around ++ Right of z ∷ []
      → ((p : Place) → progress_at new p ≡ progress_at old p) → new.begun ≡ old.begun → Leaves old new z (Go (Enter of.right))
  undefined : (around : List Walking) (of : Application) (x : ℤ) → old.walking.items ≡ around ++ Right of x ∷ [] → calculated (meaning of.operation) x z ≡ None
      → Leaves old new z (Stop Never)
  out : (around : List Walking) (of : Application) (x : ℤ) {v : ℤ} → old.walking.items ≡ around ++ Right of x ∷ [] → calculated (meaning of.operation) x z ≡ Some v
      → new.walking.items ≡ around → ((p : Place) → progress_at new p ≡ cond (same_place of.place p) (Value v) (progress_at old p)) → new.begun ≡ old.begun
      → Leaves old new z (Go (Leave v))

abbrev pub Turns : Template → List (Var × Term) → Walk → Walk → Step → Turn → Type 0
Turns t bs old new (Enter s) turn = Enters t bs old new s turn
Turns t bs old new (Leave z) turn = Leaves old new z turn
