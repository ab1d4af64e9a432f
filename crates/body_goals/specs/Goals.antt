-- One goal of a body, by what stores tell.
use Rattle.std.specs.Prelude.{◌≡◌, ℕ, ℤ, List, true}
use Rattle.akl_terms.specs.declared.name.Name.{Name}
use Rattle.akl_terms.specs.declared.program.Code.{Code}
use Rattle.akl_terms.specs.declared.program.Goal.{Goal}
use Rattle.akl_terms.specs.declared.program.Test.{Test}
use Rattle.akl_terms.specs.declared.term.Node.{Node}
use Rattle.akl_terms.specs.declared.term.Term.{Term}
use Rattle.akl_terms.specs.declared.term.Equation as code
use Rattle.akl_terms.specs.Arithmetic.{Evaluates, value, truth}
use Rattle.akl_terms.specs.Template.{Template, tree}
use Rattle.akl_model.specs.declared.label.Rule.{Rule}
use Rattle.local_store.specs.Parts.{ToldStore}
use Rattle.local_store.specs.Stored.{Stored}
use Rattle.local_store.specs.Chained.{Chained, equations_of}
use Rattle.body_goals.specs.declared.goal.Reduction.{Reduction}
use Rattle.body_goals.specs.Takes.{within, TakesIn}

-- the templates of a chain
abbrev pub template_of : Chained → Template
template_of c = record { nodes = c.nodes; symbols = c.symbols }

-- an equation of two nodes under a frame, or of a node and a number
abbrev pub of_nodes : ℕ → ℕ → Name → code.Equation
of_nodes l r frame = record { left = Term.Mol l frame; right = Term.Mol r frame }

abbrev pub of_number : ℕ → ℤ → Name → code.Equation
of_number l z frame = record { left = Term.Mol l frame; right = Term.Int z }

-- a goal tells its box an equation by a rule
pub data Tells (symbols : List (List ℕ)) (nodes : List Node) (ss : List Stored) : Goal → Rule → code.Equation → Type 0 where
  equal : (l r : ℕ) (frame : Name) → Tells symbols nodes ss (record { code = Code.Equal l r; frame = frame }) Rule.Tell (of_nodes l r frame)
  valued : (test : Test) (l r : ℕ) (frame : Name) (z : ℤ) → Evaluates symbols (equations_of nodes ss) test (tree nodes (Term.Mol l frame)) (tree nodes (Term.Mol r frame)) (value z)
      → Tells symbols nodes ss (record { code = Code.Arith test l r; frame = frame }) Rule.Eval (of_number l z frame)

-- it is a comparison that holds
pub data Holds (symbols : List (List ℕ)) (nodes : List Node) (ss : List Stored) : Goal → Type 0 where
  compared : (test : Test) (l r : ℕ) (frame : Name) → Evaluates symbols (equations_of nodes ss) test (tree nodes (Term.Mol l frame)) (tree nodes (Term.Mol r frame)) (truth true)
      → Holds symbols nodes ss (record { code = Code.Arith test l r; frame = frame })

-- what it tells joins a store
pub record TellsInto (symbols : List (List ℕ)) (nodes : List Node) (around : List Stored) (g : Goal) (r : Rule) (old new : ToldStore) : Type 0 where
  pub equation : code.Equation
  pub tells : Tells symbols nodes (within around old.store) g r equation
  pub takes : TakesIn nodes around equation old new

-- what becomes of a goal, and of the store of its box
abbrev pub IsReduction : List (List ℕ) → List Node → List Stored → Goal → ToldStore → ToldStore → Reduction → Type 0
IsReduction symbols nodes around g old new (Reduction.Tells r) = TellsInto symbols nodes around g r old new
IsReduction symbols nodes around g old new Reduction.Holds = Holds symbols nodes (within around old.store) g × (new ≡ old)
IsReduction symbols nodes around g old new Reduction.Stays = new ≡ old

-- an equation is told by a rule, or nothing changes
abbrev pub IsToldBy : List Node → List Stored → Rule → code.Equation → ToldStore → ToldStore → Reduction → Type 0
IsToldBy nodes around rule e old new (Reduction.Tells r) = (r ≡ rule) × TakesIn nodes around e old new
IsToldBy nodes around rule e old new Reduction.Holds = ⊥
IsToldBy nodes around rule e old new Reduction.Stays = new ≡ old
