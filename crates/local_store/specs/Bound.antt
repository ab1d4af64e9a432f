-- What is bound or made equal where equations are added.
use Rattle.std.specs.Prelude.{◌≡◌, List, [], ◌∷◌, ◌++◌, Some}
use Rattle.std.specs.List.{AllByRecursion}
use Rattle.akl_terms.specs.declared.name.Var.{Var}
use Rattle.akl_terms.specs.declared.term.Node.{Node}
use Rattle.akl_terms.specs.declared.term.Term.{Term}
use Rattle.akl_terms.specs.Tree.{Tree, variable, integer, port, symbol}
use Rattle.akl_terms.specs.Equal.{Equations, Equal, IsConsistent}
use Rattle.constraint_laws.specs.Bound.{IsNewlyBound}
use Rattle.constraint_laws.specs.Touched.{IsAmong}
use Rattle.rational_unify.specs.Known.{found_in, end_of}
use Rattle.rational_unify.specs.Forms.{Takes, IsClashOfBindings}

-- variables that are bound or made equal from E to G, enough of them: to each such variable one of them is equal by O. None where G is inconsistent
pub record AreNewlyBound (O E G : Equations) (list : List Var) : Type 0 where
  pub consistent : (y : Var) → IsAmong y list → IsConsistent G
  pub each : (y : Var) → IsAmong y list → IsNewlyBound E G y
  pub every : IsConsistent G → (x : Var) → IsNewlyBound E G x → (y : Var) × IsAmong y list × Equal O (variable x) (variable y)

-- the variable that a tree is, where it is one
abbrev pub variable_in : Tree → List Var
variable_in (variable x) = x ∷ []
variable_in (integer z) = []
variable_in (port p) = []
variable_in (symbol f ts) = []

-- the variables of bindings, each with the one in which its chain ends, where it ends in one
abbrev pub bound_by : List Node → List (Var × Term) → List (Var × Term) → List Var
bound_by nodes whole [] = []
bound_by nodes whole (b ∷ bs) = b.0 ∷ variable_in (end_of nodes whole (variable b.0)) ++ bound_by nodes whole bs

-- each of these bindings is the one that is found of its variable
abbrev pub AreFound : List (Var × Term) → List (Var × Term) → Type 0
AreFound whole bs = AllByRecursion (λ b. found_in whole b.0 ≡ Some b.1) bs

-- those of what is found for bindings over a solved form, or none where they clash with it
pub data BindsOver (nodes : List Node) (known bs : List (Var × Term)) (list : List Var) : Type 0 where
  taken : (more : List (Var × Term)) → Takes nodes known [] more bs → list ≡ bound_by nodes (known ++ more) more → BindsOver nodes known bs list
  clashes : (left right : Term) → IsClashOfBindings nodes (known ++ []) bs left right → list ≡ [] → BindsOver nodes known bs list
