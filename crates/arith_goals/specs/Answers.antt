-- What is answered of expressions and of arithmetic goals.
use Rattle.std.specs.Prelude.{◌≡◌, ℕ, ℤ, List, true, false, Option, Some, None}
use Rattle.akl_terms.specs.declared.name.Var.{Var}
use Rattle.akl_terms.specs.declared.program.Code.{Code}
use Rattle.akl_terms.specs.declared.program.Goal.{Goal}
use Rattle.akl_terms.specs.declared.program.Test.{Test}
use Rattle.akl_terms.specs.declared.term.Node.{Node}
use Rattle.akl_terms.specs.declared.term.Term.{Term}
use Rattle.akl_terms.specs.declared.term.Term.TheVariants.{Mol}
use Rattle.akl_terms.specs.Tree.{Tree, variable}
use Rattle.akl_terms.specs.Equal.{Equations}
use Rattle.akl_terms.specs.Template.{Template, tree}
use Rattle.akl_terms.specs.Arithmetic.{HasValue, WaitsOn, Answer, value, truth, Evaluates, GoalWaitsOn}
use Rattle.rational_unify.specs.Known.{end_of}
use Rattle.rational_unify.specs.Solving.{bindings_in}
use Rattle.local_store.specs.Chained.{Chained, bindings_from}
use Rattle.local_store.specs.Asking.{AreSolvedBindings}
use Rattle.arith_goals.specs.declared.expression.Expression.{Expression}
use Rattle.arith_goals.specs.declared.expression.Expression.TheVariants as expression
use Rattle.arith_goals.specs.declared.walk.Walked.{Walked}
use Rattle.arith_goals.specs.declared.walk.Walked.TheVariants as walked
use Rattle.arith_goals.specs.declared.goals.ArithValue.{ArithValue}
use Rattle.arith_goals.specs.declared.goals.ArithValue.TheVariants.{Is, Holds, Fails, Waits, Never}

-- no value, and nothing to wait on
pub record IsStuck (symbols : List (List ℕ)) (E : Equations) (t : Tree) : Type 0 where
  pub no_value : (z : ℤ) → HasValue symbols E t z → ⊥
  pub no_wait : (x : Var) → WaitsOn symbols E t x → ⊥

-- what an expression comes to
abbrev pub Comes : List (List ℕ) → Equations → Tree → Walked → Type 0
Comes symbols E t (walked.Is z) = HasValue symbols E t z
Comes symbols E t (walked.Waits x) = WaitsOn symbols E t x
Comes symbols E t walked.Never = IsStuck symbols E t

-- what an expression comes to that is no operation
abbrev pub at_once : Expression → Option Walked
at_once (expression.Number z) = Some (walked.Is z)
at_once (expression.Free x) = Some (walked.Waits x)
at_once expression.Other = Some walked.Never
at_once (expression.Apply of) = None

-- no answer, and nothing to wait on
pub record IsGoalStuck (symbols : List (List ℕ)) (E : Equations) (test : Test) (l r : Tree) : Type 0 where
  pub no_answer : (a : Answer) → Evaluates symbols E test l r a → ⊥
  pub no_wait : (x : Var) → GoalWaitsOn symbols E test l r x → ⊥

-- what a goal of two terms comes to
abbrev pub ComesTo : List (List ℕ) → Equations → Test → Tree → Tree → ArithValue → Type 0
ComesTo symbols E test l r (Is z) = Evaluates symbols E test l r (value z)
ComesTo symbols E test l r Holds = Evaluates symbols E test l r (truth true)
ComesTo symbols E test l r Fails = Evaluates symbols E test l r (truth false)
ComesTo symbols E test l r (Waits x) = GoalWaitsOn symbols E test l r x
ComesTo symbols E test l r Never = IsGoalStuck symbols E test l r

abbrev pub IsArithmetic : Code → Type 0
IsArithmetic (Code.Arith test l r) = Unit {0}
IsArithmetic code = ⊥

-- what an arithmetic goal comes to
abbrev pub Answers : Template → Equations → Goal → ArithValue → Type 0
Answers t E goal answer = at goal.code
  where
    at : Code → Type 0
    at (Code.Arith test l r) = ComesTo t.symbols E test (tree t.nodes (Mol l goal.frame)) (tree t.nodes (Mol r goal.frame)) answer
    at code = ⊥

-- what it comes to under the equations that a chain's stores tell
abbrev pub AnswersIn : Chained → Goal → ArithValue → Type 0
AnswersIn chain goal answer = Answers (record { nodes = chain.nodes; symbols = chain.symbols }) (bindings_in chain.nodes (bindings_from chain.stores)) goal answer

-- the variable that is waited on is the end of its own chain of bindings, and so of the chain of each term that is equal to it
abbrev pub WalksToEnd : List Node → List (Var × Term) → Walked → Type 0
WalksToEnd nodes bs (walked.Waits x) = end_of nodes bs (variable x) ≡ variable x
WalksToEnd nodes bs answer = Unit {0}

abbrev pub WaitsAtEnd : List Node → List (Var × Term) → ArithValue → Type 0
WaitsAtEnd nodes bs (Waits x) = end_of nodes bs (variable x) ≡ variable x
WaitsAtEnd nodes bs answer = Unit {0}

-- so it is in bindings with which the chain of stores is solved. No store that is known to be solved binds it then
abbrev pub WaitsAtEndIn : Chained → ArithValue → Type 0
WaitsAtEndIn chain answer = (bs : List (Var × Term)) × AreSolvedBindings chain.nodes chain.stores chain.known bs × WaitsAtEnd chain.nodes bs answer
