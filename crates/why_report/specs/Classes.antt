-- The oldest variables of classes.
use Rattle.std.specs.Prelude.{◌≡◌, List, ◌⊎◌}
use Rattle.std.specs.declared.cmp.Ordering.TheVariants.{Less}
use Rattle.akl_terms.specs.declared.name.Var.{Var}
use Rattle.akl_terms.specs.declared.term.Node.{Node}
use Rattle.akl_terms.specs.declared.term.Term.{Term}
use Rattle.akl_terms.specs.Names.{var_cmp}
use Rattle.akl_terms.specs.Tree.{variable}
use Rattle.akl_terms.specs.Equal.{Equations, Equal, IsConsistent, IsStructured}
use Rattle.constraint_laws.specs.Oldest.{IsOldest}
use Rattle.constraint_laws.specs.Touched.{IsAmong}
use Rattle.rational_unify.specs.Known.{end_of}
use Rattle.class_members.specs.Members.{IsMember}
use Rattle.why_laws.specs.Waiting.{AreIncreasing}

-- the oldest variable of each class of these that isn't structured, in increasing order
pub record AreOldest (E : Equations) (of list : List Var) : Type 0 where
  pub increasing : AreIncreasing list
  pub each : (x : Var) → IsAmong x list → IsMember E of x × IsOldest E x x
  pub every : IsConsistent E → (x w : Var) → IsMember E of x → IsOldest E x w → IsAmong w list

-- one variable is the other one, or older
abbrev pub IsUpTo : Var → Var → Type 0
IsUpTo x y = (x ≡ y) ⊎ (var_cmp x y ≡ Less)

-- of these variables the first one of each class that isn't structured, in increasing order: none of the others of its class is older
pub record AreLeast (E : Equations) (of list : List Var) : Type 0 where
  pub increasing : AreIncreasing list
  pub each : (x : Var) → IsAmong x list → IsAmong x of × ((y : Var) → IsAmong y of → Equal E (variable x) (variable y) → IsUpTo x y)
  pub every : IsConsistent E → (y : Var) → IsAmong y of → (IsStructured E y → ⊥) → (x : Var) × IsAmong x list × Equal E (variable x) (variable y)

-- the variable's chain ends in a variable, as that of no older one of these does
pub record IsFirst (nodes : List Node) (bs : List (Var × Term)) (of : List Var) (x : Var) : Type 0 where
  pub among : IsAmong x of
  pub end : Var
  pub ends : end_of nodes bs (variable x) ≡ variable end
  pub first : (y : Var) → IsAmong y of → end_of nodes bs (variable y) ≡ variable end → IsUpTo x y

-- the first of some variables with each end of chains in a variable, in increasing order
pub record AreFirst (nodes : List Node) (bs : List (Var × Term)) (of list : List Var) : Type 0 where
  pub increasing : AreIncreasing list
  pub each : (x : Var) → IsAmong x list → IsFirst nodes bs of x
  pub every : (y r : Var) → IsAmong y of → end_of nodes bs (variable y) ≡ variable r → (x : Var) × IsAmong x list × (end_of nodes bs (variable x) ≡ variable r)
