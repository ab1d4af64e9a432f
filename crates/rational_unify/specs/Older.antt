-- Bindings that lead from younger variables to older ones.
use Rattle.std.specs.Prelude.{◌≡◌, List, ◌++◌, Some}
use Rattle.std.specs.List.{AllByRecursion}
use Rattle.std.specs.declared.cmp.Ordering.TheVariants.{Less}
use Rattle.akl_terms.specs.declared.name.Var.{Var}
use Rattle.akl_terms.specs.declared.term.Node.{Node}
use Rattle.akl_terms.specs.declared.term.Term.{Term}
use Rattle.akl_terms.specs.Names.{var_cmp}
use Rattle.akl_terms.specs.Tree.{variable}
use Rattle.akl_terms.specs.Template.{tree}
use Rattle.rational_unify.specs.declared.solver.Solved.{Solved}
use Rattle.rational_unify.specs.declared.solver.Solved.TheVariants.{Added, Clash}
use Rattle.rational_unify.specs.Known.{found_in}

-- each variable that is bound to a variable is bound to an older one
pub record LeadOlder (nodes : List Node) (bs : List (Var × Term)) : Type 0 where
  pub each : (x y : Var) (t : Term) → found_in bs x ≡ Some t → tree nodes t ≡ variable y → var_cmp y x ≡ Less

-- the second bindings lead to older variables where the first do
abbrev pub KeepsOlder : List Node → List (Var × Term) → List (Var × Term) → Type 0
KeepsOlder nodes bs cs = LeadOlder nodes bs → LeadOlder nodes cs

-- where a binding binds its variable to a variable, that one is older
abbrev pub IsToOlder : List Node → Var × Term → Type 0
IsToOlder nodes b = (y : Var) → tree nodes b.1 ≡ variable y → var_cmp y b.0 ≡ Less

-- each binding of a list, where a variable may have several
abbrev pub EachOlder : List Node → List (Var × Term) → Type 0
EachOlder nodes bs = AllByRecursion (IsToOlder nodes) bs

-- with what is added the known bindings lead to older variables where they did before
abbrev pub AddsOlder : List Node → List (Var × Term) → Solved → Type 0
AddsOlder nodes known (Added added) = KeepsOlder nodes known (known ++ added)
AddsOlder nodes known (Clash left right) = Unit {0}
