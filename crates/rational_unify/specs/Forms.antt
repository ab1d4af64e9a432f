-- Solved forms of what is told.
use Rattle.std.specs.Prelude.{◌≡◌, ◌≢◌, ℕ, List, [], ◌∷◌, ◌++◌, ◌⊎◌, None, Some}
use Rattle.akl_terms.specs.declared.name.Var.{Var}
use Rattle.akl_terms.specs.declared.term.Node.{Node}
use Rattle.akl_terms.specs.declared.term.Term.{Term}
use Rattle.akl_terms.specs.declared.term.Equation as code
use Rattle.akl_terms.specs.Tree.{Tree, variable}
use Rattle.akl_terms.specs.Equal.{IsTold, EqualBy}
use Rattle.akl_terms.specs.Decided.{DifferInHead}
use Rattle.akl_terms.specs.Solved.{IsBound, SameTo}
use Rattle.akl_terms.specs.Template.{tree}
use Rattle.rational_unify.specs.Known.{found_in, bound_in, IsSolved, end_of}
use Rattle.rational_unify.specs.Solving.{bindings_in, BindNew}

-- bindings that are a solved form, that follow from what R tells, and in which all of it holds
pub record IsFormOf (nodes : List Node) (bs : List (Var × Term)) (R : Tree → Tree → Type 0) : Type 0 where
  pub solved : IsSolved nodes bs
  pub follow : (s t : Tree) → IsBound (bound_in nodes bs) s t → EqualBy R s t
  pub hold : (s t : Tree) → R s t → (n : ℕ) → SameTo (end_of nodes bs) n s t

-- what known bindings tell, together with all of a list of bindings, where a variable may have several
abbrev pub TellsBindings : List Node → List (Var × Term) → List (Var × Term) → Tree → Tree → Type 0
TellsBindings nodes known bs s t = IsBound (bound_in nodes known) s t ⊎ IsTold (bindings_in nodes bs) s t

-- two terms of different heads that they make equal
pub record IsClashOfBindings (nodes : List Node) (known bs : List (Var × Term)) (left right : Term) : Type 0 where
  pub equal : EqualBy (TellsBindings nodes known bs) (tree nodes left) (tree nodes right)
  pub differ : DifferInHead (tree nodes left) (tree nodes right)

-- a form has taken a list of bindings in: with the ones that were added it is a solved form of both
pub record Takes (nodes : List Node) (known old new bs : List (Var × Term)) : Type 0 where
  pub more : List (Var × Term)
  pub added : new ≡ old ++ more
  pub fresh : BindNew (known ++ old) more
  pub form : IsFormOf nodes (known ++ new) (TellsBindings nodes (known ++ old) bs)

-- what becomes of one binding: an equation with what its variable is bound to, a binding to the end of its term's chain, or nothing
pub data OneTaken (nodes : List Node) (bs old new : List (Var × Term)) (pending pending' : List code.Equation) (x : Var) (t : Term) : Type 0 where
  made_equation : (u : Term) → found_in bs x ≡ Some u → new ≡ old → pending' ≡ pending ++ record { left = u; right = t } ∷ [] → OneTaken nodes bs old new pending pending' x t
  made_binding : (u : Term) → found_in bs x ≡ None → tree nodes u ≡ end_of nodes bs (tree nodes t) → tree nodes u ≢ variable x → new ≡ old ++ (x, u) ∷ [] → pending' ≡ pending
      → OneTaken nodes bs old new pending pending' x t
  made_nothing : end_of nodes bs (tree nodes t) ≡ variable x → new ≡ old → pending' ≡ pending → OneTaken nodes bs old new pending pending' x t
