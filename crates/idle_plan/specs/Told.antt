-- What stores tell variables from outside of them.
use Rattle.std.specs.Prelude.{◌-◌, List, length, take}
use Rattle.akl_terms.specs.declared.name.Var.{Var}
use Rattle.akl_terms.specs.declared.term.Node.{Node}
use Rattle.akl_terms.specs.Equal.{IsConsistent}
use Rattle.constraint_laws.specs.Touched.{IsAmong}
use Rattle.local_store.specs.Stored.{Stored}
use Rattle.entail_test.specs.Asked.{AreTouchedAt}
use Rattle.local_store.specs.Chained.{equations_of}
use Rattle.class_members.specs.Members.{AreMembers}

-- all that stores tell is consistent, and these are members of the classes that the innermost one touches, enough of them
pub record ListsTold (nodes : List Node) (ss : List Stored) (list : List Var) : Type 0 where
  pub on : List Var
  pub consistent : IsConsistent (equations_of nodes ss)
  pub touched : AreTouchedAt nodes ss (length ss - 1) on
  pub members : AreMembers nodes (take (length ss - 1) ss) on list

-- a list that is made of others: each of its variables is of one of them, all of which it has, and it has all of those that were asked for
pub record AreGathered (I : Type 0) (In : I → Type 0) (Asked : I → Type 0) (Lists : I → List Var → Type 0) (list : List Var) : Type 0 where
  pub each : (y : Var) → IsAmong y list → (i : I) × (own : List Var) × In i × Lists i own × IsAmong y own × ((z : Var) → IsAmong z own → IsAmong z list)
  pub every : (i : I) → In i → Asked i → (own : List Var) × Lists i own × ((y : Var) → IsAmong y own → IsAmong y list)
