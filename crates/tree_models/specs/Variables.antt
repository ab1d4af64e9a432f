-- The variables of bindings and shown terms.
use Rattle.std.specs.Prelude.{List, [], ◌∷◌, ◌⊎◌}
use Rattle.std.specs.List.{flat_map}
use Rattle.std.specs.List.Sorted.{IsStrictlySortedBy}
use Rattle.akl_terms.specs.declared.name.Var.{Var}
use Rattle.akl_terms.specs.declared.program.ShownTerm.{ShownTerm}
use Rattle.akl_terms.specs.declared.term.Node.{Node}
use Rattle.akl_terms.specs.declared.term.Seen.{Seen}
use Rattle.akl_terms.specs.declared.term.Seen.TheVariants.{Free}
use Rattle.akl_terms.specs.declared.term.Term.{Term}
use Rattle.akl_terms.specs.Names.{var_cmp}
use Rattle.constraint_laws.specs.Touched.{IsAmong}
use Rattle.rational_unify.specs.Solving.{bindings_in}
use Rattle.tree_models.specs.Solutions.{OccursIn, OccursShown, shown_terms}

-- the variables of a list, each once, in increasing order
pub record AreOnce (listed list : List Var) : Type 0 where
  pub increasing : IsStrictlySortedBy var_cmp list
  pub each : (x : Var) → IsAmong x list → IsAmong x listed
  pub every : (x : Var) → IsAmong x listed → IsAmong x list

-- the variables that occur in bindings or in shown terms, in increasing order
pub record AreVariablesOf (nodes : List Node) (bs : List (Var × Term)) (shown : List ShownTerm) (list : List Var) : Type 0 where
  pub increasing : IsStrictlySortedBy var_cmp list
  pub each : (x : Var) → IsAmong x list → OccursIn x (bindings_in nodes bs) ⊎ OccursShown x (shown_terms nodes shown)
  pub every : (x : Var) → OccursIn x (bindings_in nodes bs) ⊎ OccursShown x (shown_terms nodes shown) → IsAmong x list

-- the variables with which nodes begin
abbrev pub free_in : Seen → List Var
free_in (Free x) = x ∷ []
free_in seen = []

abbrev pub free_variables : List Seen → List Var
free_variables seens = flat_map free_in seens
