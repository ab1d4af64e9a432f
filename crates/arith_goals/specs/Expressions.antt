-- What an expression begins with.
use Rattle.std.specs.Prelude.{◌≡◌, ℕ, ℤ, Some}
use Rattle.akl_terms.specs.declared.term.Term.TheVariants.{Mol}
use Rattle.akl_terms.specs.Tree.{Tree, variable, integer, Head, integer_head, symbol_head, head_of}
use Rattle.akl_terms.specs.Template.{Template, tree}
use Rattle.akl_terms.specs.Arithmetic.{Operation, binary, operation_of}
use Rattle.arith_goals.specs.declared.expression.Place.{Place}
use Rattle.arith_goals.specs.declared.expression.Application.{Application}
use Rattle.arith_goals.specs.declared.expression.Expression.{Expression}
use Rattle.arith_goals.specs.declared.expression.Expression.TheVariants.{Number, Free, Apply, Other}
use Rattle.arith_goals.specs.Operations.{meaning}

-- the tree that stands at a place
abbrev pub tree_there : Template → Place → Tree
tree_there t p = tree t.nodes (Mol p.node p.frame)

-- a tree that stands at a place and is an operation over two operands
pub record IsApplication (t : Template) (end : Tree) (of : Application) : Type 0 where
  pub symbol : ℕ
  pub named : operation_of t.symbols symbol ≡ Some (meaning of.operation)
  pub applied : end ≡ binary symbol (tree t.nodes of.left) (tree t.nodes of.right)
  pub place : end ≡ tree_there t of.place

-- no variable, no integer, and no operation over two operands
pub record IsOther (t : Template) (end : Tree) : Type 0 where
  pub head : Head
  pub is_head : head_of end ≡ Some head
  pub no_integer : (z : ℤ) → head ≡ integer_head z → ⊥
  pub no_operation : (f : ℕ) (o : Operation) → operation_of t.symbols f ≡ Some o → head ≡ symbol_head f 2 → ⊥

abbrev pub IsExpression : Template → Tree → Expression → Type 0
IsExpression t end (Number z) = end ≡ integer z
IsExpression t end (Free x) = end ≡ variable x
IsExpression t end (Apply of) = IsApplication t end of
IsExpression t end Other = IsOther t end
