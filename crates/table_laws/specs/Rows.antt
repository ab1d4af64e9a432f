-- What a flat table has under the names of boxes and goals.
use Rattle.std.specs.Prelude.{ℕ, List, [], ◌∷◌, ◌++◌, Option, Some, None}
use Rattle.akl_terms.specs.declared.name.Name.{Name}
use Rattle.akl_terms.specs.declared.name.Var.{Var}
use Rattle.akl_terms.specs.declared.term.Node.{Node}
use Rattle.akl_terms.specs.declared.term.Term.{Term}
use Rattle.akl_terms.specs.Tree.{Tree}
use Rattle.akl_terms.specs.Template.{tree}
use Rattle.akl_terms.specs.Equal.{Equations}
use Rattle.akl_model.specs.Config.{Atom, Port, ShownTree}
use Rattle.akl_model.specs.Changes.{Shape}
use Rattle.rational_unify.specs.Solving.{bindings_in}
use Rattle.local_store.specs.Stored.{Stored, nothing}

-- a box: the choice that holds it, none for a root box; its store, with the number of the last label that changed its constraint, and how
-- many labels there were when the store was solved over the stores around it, where it was; the names of its goals, with the number of the
-- last label that changed them; one of them by which the box fails, where there is one; its body, the terms that it shows, and its collected term
pub record BoxRow : Type 0 where
  pub holder : Option Name
  pub store : Stored
  pub changed : ℕ
  pub solved_at : Option ℕ
  pub goals : List Name
  pub goals_changed : ℕ
  pub failing : Option Name
  pub body : List Atom
  pub shown : List ShownTree
  pub collected : Option Tree

-- a goal: the box in which it stands, and an atom or a choice with the names of its alternatives; the number of the last label that changed it
pub record GoalRow : Type 0 where
  pub home : Name
  pub shape : Shape
  pub changed : ℕ

-- a table: the nodes of its program; boxes and goals by name; the names of the root boxes, with the number of the last label that changed
-- these; the next number of each worker; how many labels were made; and of each variable a number of labels behind which it wasn't bound
pub record Table : Type 0 where
  pub nodes : List Node
  pub box_of : Name → Option BoxRow
  pub goal_of : Name → Option GoalRow
  pub roots : List Name
  pub roots_changed : ℕ
  pub next : List ℕ
  pub steps : ℕ
  pub mark_of : Var → ℕ

-- the store under a name; one that isn't there has nothing
abbrev pub store_in : Option BoxRow → Stored
store_in None = nothing
store_in (Some r) = r.store

-- the stores of boxes, in their order
abbrev pub stores_along : Table → List Name → List Stored
stores_along T [] = []
stores_along T (n ∷ ns) = store_in (T.box_of n) ∷ stores_along T ns

-- all that stores tell
abbrev pub told_in : List Node → List Stored → Equations
told_in nodes [] = []
told_in nodes (s ∷ ss) = bindings_in nodes s.bindings ++ told_in nodes ss

abbrev pub ports_in : List Node → List (Name × Term) → List Port
ports_in nodes [] = []
ports_in nodes (p ∷ ps) = record { name = p.0; tail = tree nodes p.1 } ∷ ports_in nodes ps
