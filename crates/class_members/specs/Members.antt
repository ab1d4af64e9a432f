-- Members of classes of variables, of which the outermost store tells the others.
use Rattle.std.specs.Prelude.{List, take}
use Rattle.akl_terms.specs.declared.name.Var.{Var}
use Rattle.akl_terms.specs.declared.term.Node.{Node}
use Rattle.akl_terms.specs.Tree.{variable}
use Rattle.akl_terms.specs.Equal.{Equations, Equal, IsConsistent, IsStructured}
use Rattle.constraint_laws.specs.Oldest.{HasOldest}
use Rattle.constraint_laws.specs.Touched.{IsAmong}
use Rattle.local_store.specs.Stored.{Stored}
use Rattle.local_store.specs.Chained.{equations_of}

-- the equations of a chain's outermost store alone
abbrev pub outermost_of : List Node → List Stored → Equations
outermost_of nodes ss = equations_of nodes (take 1 ss)

-- a variable is of the class of one of these, which isn't structured
pub record IsMember (E : Equations) (of : List Var) (y : Var) : Type 0 where
  pub variable_of : Var
  pub among : IsAmong variable_of of
  pub unstructured : IsStructured E variable_of → ⊥
  pub equal : Equal E (variable variable_of) (variable y)

-- enough members of the classes of these variables: each listed one is a member, and to each member one of them is equal by the outermost store
-- alone, by which the list has the oldest of each class that it meets. Of a structured variable no member is listed, and where all is inconsistent
-- nothing is
pub record AreMembers (nodes : List Node) (ss : List Stored) (of list : List Var) : Type 0 where
  pub consistent : (y : Var) → IsAmong y list → IsConsistent (equations_of nodes ss)
  pub each : (y : Var) → IsAmong y list → IsMember (equations_of nodes ss) of y
  pub every : IsConsistent (equations_of nodes ss) → (z : Var) → IsMember (equations_of nodes ss) of z
      → (y : Var) × IsAmong y list × Equal (outermost_of nodes ss) (variable y) (variable z)
  pub oldest : HasOldest (outermost_of nodes ss) list
