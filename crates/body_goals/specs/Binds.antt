-- The one binding by which an equation holds.
use Rattle.std.specs.Prelude.{◌≡◌, ◌≢◌, List, [], ◌∷◌, ◌++◌, ◌⊎◌}
use Rattle.akl_terms.specs.declared.name.Var.{Var}
use Rattle.akl_terms.specs.declared.term.Node.{Node}
use Rattle.akl_terms.specs.declared.term.Term.{Term}
use Rattle.akl_terms.specs.declared.term.Equation as code
use Rattle.akl_terms.specs.Tree.{variable}
use Rattle.akl_terms.specs.Template.{tree}
use Rattle.rational_unify.specs.Known.{end_of}
use Rattle.rational_unify.specs.Older.{KeepsOlder}
use Rattle.rational_unify.specs.Solving.{IsSolution}
use Rattle.local_store.specs.Bound.{variable_in}
use Rattle.local_store.specs.Stored.{Stored}
use Rattle.local_store.specs.Chained.{bindings_from}
use Rattle.body_goals.specs.Takes.{AreUnbound}

-- a variable that is one of two terms is bound to the other one, which is another tree
abbrev pub MakesOne : List Node → Term → Term → Var × Term → Type 0
MakesOne nodes s t b = (((tree nodes s ≡ variable b.0) × (b.1 ≡ t)) ⊎ ((tree nodes t ≡ variable b.0) × (b.1 ≡ s))) × (tree nodes b.1 ≢ variable b.0)

-- with a binding, those that are found in stores solve an equation. It leads to the end of its chain, and neither its variable nor one that it leads to was bound
pub record Binds (nodes : List Node) (ss : List Stored) (e : code.Equation) (b : Var × Term) : Type 0 where
  pub solution : IsSolution nodes (bindings_from ss) (e ∷ []) (b ∷ [])
  pub older : KeepsOlder nodes (bindings_from ss) (bindings_from ss ++ b ∷ [])
  pub at_end : end_of nodes (bindings_from ss ++ b ∷ []) (variable b.0) ≡ tree nodes b.1
  pub unbound : AreUnbound (bindings_from ss) (b.0 ∷ variable_in (tree nodes b.1))
