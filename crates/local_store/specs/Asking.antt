-- What a chain says, and how it is made solved.
use Rattle.std.specs.Prelude.{◌≡◌, ℕ, List, [], ◌++◌, take, drop, Some}
use Rattle.akl_terms.specs.declared.name.Var.{Var}
use Rattle.akl_terms.specs.declared.term.Node.{Node}
use Rattle.akl_terms.specs.declared.term.Term.{Term}
use Rattle.akl_terms.specs.Tree.{Tree, variable, Head, head_of}
use Rattle.akl_terms.specs.Equal.{EqualBy, IsConsistentBy}
use Rattle.akl_terms.specs.Decided.{DifferInHead}
use Rattle.akl_terms.specs.Solved.{IsUnstructured}
use Rattle.akl_terms.specs.Template.{tree}
use Rattle.rational_unify.specs.Known.{end_of}
use Rattle.rational_unify.specs.Forms.{Takes}
use Rattle.local_store.specs.declared.asking.Consistency.{Consistency}
use Rattle.local_store.specs.declared.asking.Consistency.TheVariants.{Consistent, Clash}
use Rattle.local_store.specs.declared.asking.Valued.{Valued}
use Rattle.local_store.specs.declared.asking.Valued.TheVariants.{Free, Bound}
use Rattle.local_store.specs.Stored.{Stored, unbound, with_bindings}
use Rattle.akl_terms.specs.Standing.{StandFor}
use Rattle.local_store.specs.Chained.{bindings_from, ToldBy, IsFormChain, innermost, replaced}

abbrev pub Decides : List Node → List Stored → Consistency → Type 0
Decides nodes ss Consistent = IsConsistentBy (ToldBy nodes ss)
Decides nodes ss (Clash left right) = EqualBy (ToldBy nodes ss) (tree nodes left) (tree nodes right) × DifferInHead (tree nodes left) (tree nodes right)

-- a variable of the term's class, which isn't structured, or a term of its class that has a head
abbrev pub Values : List Node → List Stored → Term → Valued → Type 0
Values nodes ss t (Free x) = EqualBy (ToldBy nodes ss) (tree nodes t) (variable x) × IsUnstructured (ToldBy nodes ss) (tree nodes t)
Values nodes ss t (Bound u) = EqualBy (ToldBy nodes ss) (tree nodes t) (tree nodes u) × ((h : Head) × (head_of (tree nodes u) ≡ Some h))

-- the end of a term's chain of bindings, through all of the stores
abbrev pub end_in : List Node → List Stored → Term → Tree
end_in nodes ss t = end_of nodes (bindings_from ss) (tree nodes t)

-- the tree that stands for a class
abbrev pub tree_valued : List Node → Valued → Tree
tree_valued nodes (Free x) = variable x
tree_valued nodes (Bound u) = tree nodes u

-- bindings with which a chain is solved: those that are found in the outermost stores, as many as are known to be solved together, and what is found for the others over them
pub record AreSolvedBindings (nodes : List Node) (ss : List Stored) (known : ℕ) (bs : List (Var × Term)) : Type 0 where
  pub more : List (Var × Term)
  pub is : bs ≡ bindings_from (take known ss) ++ more
  pub takes : Takes nodes (bindings_from (take known ss)) [] more (bindings_from (drop known ss))

-- a store with the same frames and ports, and with what is found for its bindings over a solved form
pub record ResolvesOver (nodes : List Node) (known : List (Var × Term)) (old new : Stored) : Type 0 where
  pub more : List (Var × Term)
  pub takes : Takes nodes known [] more old.bindings
  pub is : new ≡ with_bindings (unbound old) more

-- a store with the innermost store's frames and ports, with which what is found is a solved form, and the chain stands for the same
pub record Resolves (nodes : List Node) (ss : List Stored) (new : Stored) : Type 0 where
  pub frames : new.frames ≡ (innermost ss).frames
  pub ports : new.ports ≡ (innermost ss).ports
  pub form : IsFormChain nodes (replaced ss new)
  pub stands : StandFor (ToldBy nodes ss) (ToldBy nodes (replaced ss new))
