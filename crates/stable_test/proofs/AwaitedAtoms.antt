-- What an atom waits on, by what its goal comes to.
use Rattle.std.proofs.Common.{◌≡◌, ℕ, List, Option, Some, None, refl, sym, subst}
use Rattle.std.specs.Prelude.{MatchOption}
use Rattle.akl_terms.specs.declared.name.Name.{Name}
use Rattle.akl_terms.specs.declared.name.Var.{Var}
use Rattle.akl_terms.specs.declared.term.Node.{Node}
use Rattle.akl_terms.specs.declared.term.Term.TheVariants.{Mol}
use Rattle.akl_terms.specs.declared.program.Code.{Code}
use Rattle.akl_terms.specs.declared.program.Goal.{Goal}
use Rattle.akl_terms.specs.declared.program.Test.{Test}
use Rattle.akl_terms.specs.declared.program.Program.{Program}
use Rattle.akl_terms.specs.Tree.{Tree}
use Rattle.akl_terms.specs.Template.{tree}
use Rattle.akl_terms.specs.Equal.{Equations, IsConsistent, same}
use Rattle.akl_terms.specs.Arithmetic.{Answer, Evaluates, gives, compared, GoalWaitsOn, right_of_is, left_side, right_side}
use Rattle.akl_model.specs.Instances.{atom_of}
use Rattle.akl_model.specs.Stable.{AtomWaitsOn}
use Rattle.constraint_laws.proofs.WaitsOne.{value_waits}
use Rattle.arith_goals.specs.declared.goals.ArithValue.{ArithValue}
use Rattle.arith_goals.specs.declared.goals.ArithValue.TheVariants.{Is, Holds, Fails, Waits, Never}
use Rattle.arith_goals.specs.Answers.{ComesTo, Answers, AnswersIn}
use Rattle.rational_unify.specs.Solving.{bindings_in}
use Rattle.local_store.specs.Stored.{Stored}
use Rattle.local_store.specs.Chained.{Chained, bindings_from}
use Rattle.box_tree.specs.Tables.{goal_atom}
use Rattle.stable_test.specs.Reaching.{IsFree, IsHeaded}

module _ (symbols : List (List ℕ)) (E : Equations) (c : IsConsistent E) where
  -- a goal that comes to an answer waits on nothing
  pub evaluated_waits : {test : Test} {l r : Tree} {a : Answer} {x : Var} → Evaluates symbols E test l r a → GoalWaitsOn symbols E test l r x → ⊥
  evaluated_waits (gives h) (right_of_is w) = value_waits symbols E c h same w
  evaluated_waits (gives h) (left_side n w) = n refl
  evaluated_waits (gives h) (right_side n v w) = n refl
  evaluated_waits (compared h k e) (left_side n w) = value_waits symbols E c h same w
  evaluated_waits (compared h k e) (right_side n v w) = value_waits symbols E c k same w
  evaluated_waits (compared h k e) (right_of_is w) = cc

  pub value_idle : (test : Test) (l r : Tree) (v : ArithValue) → ComesTo symbols E test l r v → ((on : Var) → v ≡ Waits on → ⊥) → (x : Var) → GoalWaitsOn symbols E test l r x → ⊥
  value_idle test l r (Is z) h n x w = evaluated_waits h w
  value_idle test l r Holds h n x w = evaluated_waits h w
  value_idle test l r Fails h n x w = evaluated_waits h w
  value_idle test l r (Waits on) h n x w = n on refl
  value_idle test l r Never h n x w = h.no_wait x w

-- other atoms wait on nothing
pub other_idle : (p : Program) (E : Equations) (nodes : List Node) (f : Name) (code : Code) → ((test : Test) (l r : ℕ) → code ≡ Code.Arith test l r → ⊥) → ((m q : ℕ) → code ≡ Code.Send m q → ⊥)
    → (x : Var) → AtomWaitsOn p E (atom_of nodes f code) x → ⊥
other_idle p E nodes f (Code.Arith test l r) a s x w = a test l r refl
other_idle p E nodes f (Code.Send m q) a s x w = s m q refl
other_idle p E nodes f (Code.Equal l r) a s x w = w
other_idle p E nodes f (Code.OpenPort l r) a s x w = w
other_idle p E nodes f (Code.Call d first n) a s x w = w
other_idle p E nodes f (Code.Collect d first n r) a s x w = w
other_idle p E nodes f Code.Fail a s x w = w

-- a send waits on the end of its port, where that is a variable
pub send_waits : (p : Program) (E : Equations) (nodes : List Node) (f : Name) (code : Code) (m q : ℕ) → code ≡ Code.Send m q → (o : Option Var)
    → MatchOption o (IsHeaded E (tree nodes (Mol q f))) (λ x. IsFree E (tree nodes (Mol q f)) x)
    → MatchOption o ((x : Var) → AtomWaitsOn p E (atom_of nodes f code) x → ⊥) (λ x. AtomWaitsOn p E (atom_of nodes f code) x)
send_waits p E nodes f code m q e None h = λ x w. h.none x (subst (λ (k : Code). AtomWaitsOn p E (atom_of nodes f k) x) e w)
send_waits p E nodes f code m q e (Some x) h = subst (λ (k : Code). AtomWaitsOn p E (atom_of nodes f k) x) (sym e) h

-- an arithmetic goal that comes to something, or never does, waits on nothing
pub arith_idle : (p : Program) (ss : List Stored) (chain : Chained) → chain.nodes ≡ p.templates.nodes → chain.symbols ≡ p.templates.symbols → chain.stores ≡ ss
    → IsConsistent (bindings_in p.templates.nodes (bindings_from ss)) → (goal : Goal) (test : Test) (l r : ℕ) → goal.code ≡ Code.Arith test l r → (v : ArithValue) → AnswersIn chain goal v
    → ((on : Var) → v ≡ Waits on → ⊥) → (x : Var) → AtomWaitsOn p (bindings_in p.templates.nodes (bindings_from ss)) (goal_atom p.templates.nodes goal) x → ⊥
arith_idle p ss chain en es et c goal test l r e v h n x w = value_idle p.templates.symbols (bindings_in p.templates.nodes (bindings_from ss)) c test (tree p.templates.nodes (Mol l goal.frame)) (tree p.templates.nodes (Mol r goal.frame)) v
    (subst (λ (k : Code). Answers (record { nodes = p.templates.nodes; symbols = p.templates.symbols }) (bindings_in p.templates.nodes (bindings_from ss)) (record { code = k; frame = goal.frame }) v) e
    (subst (λ (z : Chained). AnswersIn z goal v) same h)) n x
    (subst (λ (k : Code). AtomWaitsOn p (bindings_in p.templates.nodes (bindings_from ss)) (atom_of p.templates.nodes goal.frame k) x) e w)
  where
    same : chain ≡ record { nodes = p.templates.nodes; symbols = p.templates.symbols; stores = ss; known = chain.known }
    same = λ i. record { nodes = en i; symbols = es i; stores = et i; known = chain.known }
