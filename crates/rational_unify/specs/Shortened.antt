-- Bindings whose chains end where those of others do.
use Rattle.std.specs.Prelude.{◌≡◌, List, ◌++◌, map, Option, None, Some, option_map, cond}
use Rattle.akl_terms.specs.declared.name.Var.{Var}
use Rattle.akl_terms.specs.declared.term.Node.{Node}
use Rattle.akl_terms.specs.declared.term.Term.{Term}
use Rattle.akl_terms.specs.Names.{same_var}
use Rattle.akl_terms.specs.Tree.{Tree, Head, head_of, variable}
use Rattle.rational_unify.specs.Known.{found_in, IsSolved, end_of}

-- a tree is a variable, or has a head
abbrev pub IsVariableOf : Tree → Option Var → Type 0
IsVariableOf t (Some y) = t ≡ variable y
IsVariableOf t None = (h : Head) × (head_of t ≡ Some h)

-- a variable's chain ends in a variable, or in a term with a head
abbrev pub IsEndOf : List Node → List (Var × Term) → Var → Option Var → Type 0
IsEndOf nodes bs x end = IsVariableOf (end_of nodes bs (variable x)) end

-- the same variables are bound, this one, where it is, to this term, and the others to what they were
pub record Rebinds (old new : List (Var × Term)) (x : Var) (t : Term) : Type 0 where
  pub variables : map (λ b. b.0) new ≡ map (λ b. b.0) old
  pub found : (y : Var) → found_in new y ≡ option_map (λ u. cond (same_var x y) t u) (found_in old y)

-- the same variables are bound, and over the known bindings each chain ends where it did
pub record KeepsEnds (nodes : List Node) (known old new : List (Var × Term)) : Type 0 where
  pub variables : map (λ b. b.0) new ≡ map (λ b. b.0) old
  pub solved : IsSolved nodes (known ++ new)
  pub ends : (t : Tree) → end_of nodes (known ++ new) t ≡ end_of nodes (known ++ old) t
