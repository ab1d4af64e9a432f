-- What expressions come to that are no operations, and operations over such.
use Rattle.std.proofs.Common.{◌≡◌, ℤ, List, Option, Some, IfSome, refl, sym, subst}
use Rattle.akl_terms.specs.declared.name.Var.{Var}
use Rattle.akl_terms.specs.declared.term.Term.{Term}
use Rattle.akl_terms.specs.Tree.{Tree}
use Rattle.akl_terms.specs.Equal.{Equations, IsTold}
use Rattle.akl_terms.specs.Template.{Template, tree}
use Rattle.akl_terms.specs.Arithmetic.{HasValue}
use Rattle.rational_unify.specs.Known.{IsSolved, end_of}
use Rattle.rational_unify.specs.Forms.{IsFormOf}
use Rattle.arith_goals.specs.declared.expression.Application.{Application}
use Rattle.arith_goals.specs.declared.expression.Expression.{Expression}
use Rattle.arith_goals.specs.declared.expression.Expression.TheVariants as expression
use Rattle.arith_goals.specs.declared.walk.Walked.{Walked}
use Rattle.arith_goals.specs.declared.walk.Walked.TheVariants.{Is, Waits, Never}
use Rattle.arith_goals.specs.declared.walk.Walking.TheVariants.{Left, Right}
use Rattle.arith_goals.specs.Expressions.{IsExpression, IsApplication}
use Rattle.arith_goals.specs.Answers.{Comes, WalksToEnd, at_once}
use Rattle.arith_goals.proofs.Waiting.{own-end}
use Rattle.arith_goals.proofs.Walks.{consistent, number-is, free-waits, end-stuck, is_operation, stuck-in, waits-in}

-- by where its chain ends
at-once-comes : (t : Template) (bs : List (Var × Term)) (s : Tree) (e : Expression) → IsExpression t (end_of t.nodes bs s) e → IfSome (at_once e) (λ w. (E : Equations) → IsFormOf t.nodes bs (IsTold E) → Comes t.symbols E s w)
at-once-comes t bs s (expression.Number z) h = λ E f. number-is t bs E f s z h
at-once-comes t bs s (expression.Free x) h = λ E f. free-waits t bs E f s x h
at-once-comes t bs s expression.Other h = λ E f. end-stuck t bs E f s h
at-once-comes t bs s (expression.Apply of) h = tt

at-once-ends : (t : Template) (bs : List (Var × Term)) → IsSolved t.nodes bs → (s : Tree) (e : Expression) → IsExpression t (end_of t.nodes bs s) e → IfSome (at_once e) (WalksToEnd t.nodes bs)
at-once-ends t bs solved s (expression.Number z) h = tt
at-once-ends t bs solved s (expression.Free x) h = own-end t bs solved s x h
at-once-ends t bs solved s expression.Other h = tt
at-once-ends t bs solved s (expression.Apply of) h = tt

-- a term that is no operation
module _ (t : Template) (bs : List (Var × Term)) (s : Tree) (e : Expression) (h : IsExpression t (end_of t.nodes bs s) e) (r : Option Walked) (q : r ≡ at_once e) where
  pub plain-comes : IfSome r (λ w. (E : Equations) → IsFormOf t.nodes bs (IsTold E) → Comes t.symbols E s w)
  plain-comes = subst (λ (k : Option Walked). IfSome k (λ w. (E : Equations) → IsFormOf t.nodes bs (IsTold E) → Comes t.symbols E s w)) (sym q) (at-once-comes t bs s e h)

  pub plain-ends : IsSolved t.nodes bs → IfSome r (WalksToEnd t.nodes bs)
  plain-ends solved = subst (λ (k : Option Walked). IfSome k (WalksToEnd t.nodes bs)) (sym q) (at-once-ends t bs solved s e h)

-- an operand that is no operation
module _ (t : Template) (bs : List (Var × Term)) (s : Tree) (e : Expression) (h : IsExpression t (end_of t.nodes bs s) e) (w : Walked) (q : at_once e ≡ Some w) where
  pub operand-comes : (E : Equations) → IsFormOf t.nodes bs (IsTold E) → Comes t.symbols E s w
  operand-comes = plain-comes t bs s e h (Some w) (sym q)

  pub operand-ends : IsSolved t.nodes bs → WalksToEnd t.nodes bs w
  operand-ends = plain-ends t bs s e h (Some w) (sym q)

-- an operation over a first operand, or over a second one behind a value
module _ (t : Template) (bs : List (Var × Term)) (E : Equations) (f : IsFormOf t.nodes bs (IsTold E)) (s : Tree) (of : Application) (a : IsApplication t (end_of t.nodes bs s) of) where
  pub left-obstacle : (w : Walked) → ((z : ℤ) → w ≡ Is z → ⊥) → Comes t.symbols E (tree t.nodes of.left) w → Comes t.symbols E s w
  left-obstacle (Is z) n k = absurd (n z refl)
  left-obstacle (Waits x) n k = waits-in t E (consistent t bs E f) (Left of) s x (is_operation t bs E f s of a) k
  left-obstacle Never n k = stuck-in t E (consistent t bs E f) (Left of) s (is_operation t bs E f s of a) k

  pub right-obstacle : (y : ℤ) → HasValue t.symbols E (tree t.nodes of.left) y → (w : Walked) → ((z : ℤ) → w ≡ Is z → ⊥) → Comes t.symbols E (tree t.nodes of.right) w → Comes t.symbols E s w
  right-obstacle y v (Is z) n k = absurd (n z refl)
  right-obstacle y v (Waits x) n k = waits-in t E (consistent t bs E f) (Right of y) s x (is_operation t bs E f s of a, v) k
  right-obstacle y v Never n k = stuck-in t E (consistent t bs E f) (Right of y) s (is_operation t bs E f s of a, v) k
