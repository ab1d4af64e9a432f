-- What becomes of one goal of a body.
use Rattle.std.proofs.Common.{◌≡◌, ℕ, ℤ, List, sym, ap, subst}
use Rattle.akl_terms.specs.declared.program.Code.{Code}
use Rattle.akl_terms.specs.declared.program.Goal.{Goal}
use Rattle.akl_terms.specs.declared.program.Test.{Test}
use Rattle.akl_terms.specs.declared.term.Node.{Node}
use Rattle.akl_terms.specs.declared.term.Equation as code
use Rattle.akl_model.specs.declared.label.Rule.{Rule}
use Rattle.local_store.specs.Parts.{ToldStore}
use Rattle.local_store.specs.Stored.{Stored}
use Rattle.local_store.specs.Chained.{equations_of}
use Rattle.arith_goals.specs.declared.goals.ArithValue.TheVariants as arith
use Rattle.arith_goals.specs.Answers.{Answers}
use Rattle.body_goals.specs.declared.goal.Reduction.{Reduction}
use Rattle.body_goals.specs.Takes.{within}
use Rattle.body_goals.specs.Goals.{of_nodes, of_number, Tells, equal, valued, Holds, compared, IsReduction, IsToldBy}

module _ (symbols : List (List ℕ)) (nodes : List Node) where
  -- an equation that a goal tells is told by its rule
  pub told_by : (around : List Stored) (g : Goal) (rule : Rule) (e : code.Equation) (old new : ToldStore) → Tells symbols nodes (within around old.store) g rule e
      → (r : Reduction) → IsToldBy nodes around rule e old new r → IsReduction symbols nodes around g old new r
  told_by around g rule e old new t (Reduction.Tells r) h = record { equation = e; tells = subst (λ (q : Rule). Tells symbols nodes (within around old.store) g q e) (sym h.0) t; takes = h.1 }
  told_by around g rule e old new t Reduction.Holds h = absurd h
  told_by around g rule e old new t Reduction.Stays h = h

  module _ (ss : List Stored) (g : Goal) where
    with_code : (c : Code) → g.code ≡ c → g ≡ record { code = c; frame = g.frame }
    with_code c q = ap (λ (d : Code). record { code = d; frame = g.frame }) q

    pub equation_tells : (l r : ℕ) → g.code ≡ Code.Equal l r → Tells symbols nodes ss g Rule.Tell (of_nodes l r g.frame)
    equation_tells l r q = subst (λ (h : Goal). Tells symbols nodes ss h Rule.Tell (of_nodes l r g.frame)) (sym (with_code (Code.Equal l r) q)) (equal l r g.frame)

    pub value_tells : (test : Test) (l r : ℕ) (z : ℤ) → g.code ≡ Code.Arith test l r → Answers (record { nodes = nodes; symbols = symbols }) (equations_of nodes ss) g (arith.Is z) → Tells symbols nodes ss g Rule.Eval (of_number l z g.frame)
    value_tells test l r z q a = subst (λ (h : Goal). Tells symbols nodes ss h Rule.Eval (of_number l z g.frame)) (sym (with_code (Code.Arith test l r) q))
        (valued test l r g.frame z (subst (λ (h : Goal). Answers (record { nodes = nodes; symbols = symbols }) (equations_of nodes ss) h (arith.Is z)) (with_code (Code.Arith test l r) q) a))

    pub comparison_holds : (test : Test) (l r : ℕ) → g.code ≡ Code.Arith test l r → Answers (record { nodes = nodes; symbols = symbols }) (equations_of nodes ss) g arith.Holds → Holds symbols nodes ss g
    comparison_holds test l r q a = subst (Holds symbols nodes ss) (sym (with_code (Code.Arith test l r) q))
        (compared test l r g.frame (subst (λ (h : Goal). Answers (record { nodes = nodes; symbols = symbols }) (equations_of nodes ss) h arith.Holds) (with_code (Code.Arith test l r) q) a))
