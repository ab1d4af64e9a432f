-- Variables to which what stores bind leads.
use Rattle.std.specs.Prelude.{◌≡◌, List, [], ◌∷◌, Some, ◌⊎◌}
use Rattle.akl_terms.specs.declared.name.Var.{Var}
use Rattle.akl_terms.specs.declared.term.Node.{Node}
use Rattle.akl_terms.specs.declared.term.Term.{Term}
use Rattle.akl_terms.specs.Template.{tree}
use Rattle.akl_terms.specs.Tree.{Tree, Trees, none, more, variable, integer, port, symbol}
use Rattle.rational_unify.specs.Known.{found_in}
use Rattle.local_store.specs.Stored.{Stored}

-- a variable stands in a tree
abbrev mutual
  pub StandsIn : Var → Tree → Type 0
  StandsIn x (variable y) = x ≡ y
  StandsIn x (integer z) = ⊥
  StandsIn x (port p) = ⊥
  StandsIn x (symbol f ts) = StandsAmong x ts

  pub StandsAmong : Var → Trees → Type 0
  StandsAmong x none = ⊥
  StandsAmong x (more t ts) = StandsIn x t ⊎ StandsAmong x ts

-- one of these bindings binds it, or it stands in the term of one
abbrev pub StandsInBindings : List Node → List (Var × Term) → Var → Type 0
StandsInBindings nodes [] x = ⊥
StandsInBindings nodes (b ∷ bs) x = (x ≡ b.0) ⊎ StandsIn x (tree nodes b.1) ⊎ StandsInBindings nodes bs x

-- so it is with the bindings of one of these stores
abbrev pub StandsInStores : List Node → List Stored → Var → Type 0
StandsInStores nodes [] x = ⊥
StandsInStores nodes (s ∷ ss) x = StandsInBindings nodes s.bindings x ⊎ StandsInStores nodes ss x

-- a variable leads to itself, and to those in the term to which one is bound to which it leads
pub data LeadsTo (nodes : List Node) (bindings : List (Var × Term)) (x : Var) : Var → Type 0 where
  itself : LeadsTo nodes bindings x x
  bound : {y z : Var} (t : Term) → LeadsTo nodes bindings x y → found_in bindings y ≡ Some t → StandsIn z (tree nodes t) → LeadsTo nodes bindings x z

-- a variable that stands in a store inside the root box leads to this one, by what the root box's store binds
abbrev pub IsLedTo : List Node → List Stored → Var → Type 0
IsLedTo nodes [] x = ⊥
IsLedTo nodes (root ∷ inner) x = (y : Var) × StandsInStores nodes inner y × LeadsTo nodes root.bindings y x
