-- What the one pass does with one equation.
use Rattle.std.specs.Prelude.{◌≡◌, ◌+◌, List, [], ◌∷◌, ◌++◌}
use Rattle.akl_terms.specs.declared.name.Var.{Var}
use Rattle.akl_terms.specs.declared.term.Node.{Node}
use Rattle.akl_terms.specs.declared.term.Term.{Term}
use Rattle.akl_terms.specs.declared.term.Equation.{Equation}
use Rattle.akl_terms.specs.Decided.{DifferInHead}
use Rattle.akl_terms.specs.Template.{tree}
use Rattle.rational_unify.specs.declared.meet.Meeting.TheVariants.{Bind, Agree}
use Rattle.rational_unify.specs.declared.meet.Pairs.{Pairs}
use Rattle.rational_unify.specs.declared.one_pass.Pass.{Pass}
use Rattle.rational_unify.specs.declared.one_pass.Turn.{Turn}
use Rattle.rational_unify.specs.declared.one_pass.Turn.TheVariants.{Taken, Clash, Unsure}
use Rattle.rational_unify.specs.Meeting.{Meets, argument_pairs}

-- two terms are one tree, or a binding makes them one, or their arguments wait, of which only so many may wait yet
pub data TakesOn (nodes : List Node) (s t : Term) (old new : Pass) : Type 0 where
  as_same : tree nodes s ≡ tree nodes t → new ≡ old → TakesOn nodes s t old new
  by_binding : {x : Var} {u : Term} → Meets nodes s t (Bind x u) → new.added ≡ old.added ++ (x, u) ∷ [] → new.pending ≡ old.pending → new.pairs_left ≡ old.pairs_left
      → TakesOn nodes s t old new
  by_arguments : {p : Pairs} → Meets nodes s t (Agree p) → new.pairs_left + p.count ≡ old.pairs_left → new.pending ≡ old.pending ++ argument_pairs p p.count → new.added ≡ old.added
      → TakesOn nodes s t old new

-- what becomes of two terms at the ends of their chains
abbrev pub IsTurn : List Node → Equation → Pass → Pass → Turn → Type 0
IsTurn nodes ends old new Taken = TakesOn nodes ends.left ends.right old new
IsTurn nodes ends old new Clash = DifferInHead (tree nodes ends.left) (tree nodes ends.right)
IsTurn nodes ends old new Unsure = Unit {0}
