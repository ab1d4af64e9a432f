-- Variables to which what stands inside a root box leads.
use Rattle.std.specs.Prelude.{◌≡◌, ◌≤◌, List, [], ◌∷◌, length, true, Some, None, ◌⊎◌}
use Rattle.akl_terms.specs.declared.name.Name.{Name}
use Rattle.std.specs.List.{AllByRecursion}
use Rattle.akl_terms.specs.declared.name.Var.{Var}
use Rattle.akl_terms.specs.declared.term.Node.{Node}
use Rattle.akl_terms.specs.declared.term.Term.{Term}
use Rattle.akl_terms.specs.Template.{tree}
use Rattle.constraint_laws.specs.Growth.{IsOver}
use Rattle.constraint_laws.specs.Touched.{IsAmong}
use Rattle.rational_unify.specs.Known.{found_in}
use Rattle.local_store.specs.Stored.{Stored, is_named}
use Rattle.local_store.specs.Chained.{Chained}
use Rattle.reached_ends.specs.Leading.{IsLedTo}

-- each binding is of one of these variables, to a term over them
abbrev pub AreBoundOver : List Node → List Var → List (Var × Term) → Type 0
AreBoundOver nodes xs bs = AllByRecursion (λ (b : Var × Term). IsAmong b.0 xs × IsOver (λ x. IsAmong x xs) (tree nodes b.1)) bs

-- over variables that are closed under what a root store binds are all bindings of inner ones; the ends are those that the root store leaves unbound, and to no other do these bindings lead
pub record AreReached (nodes : List Node) (root : Stored) (inner : List Stored) (ends : List Var) : Type 0 where
  pub reached : List Var
  pub bound : AllByRecursion (λ (s : Stored). AreBoundOver nodes reached s.bindings) inner
  pub closed : (x : Var) → IsAmong x reached → (t : Term) → found_in root.bindings x ≡ Some t → IsOver (λ y. IsAmong y reached) (tree nodes t)
  pub ended : (x : Var) → IsAmong x reached → found_in root.bindings x ≡ None → IsAmong x ends
  pub unbound : (z : Var) → IsAmong z ends → IsAmong z reached × (found_in root.bindings z ≡ None)
  pub led : (z : Var) → IsAmong z ends → IsLedTo nodes (root ∷ inner) z

-- one of the stores has a frame, and so those of variables
abbrev pub IsOwned : List Stored → Name → Type 0
IsOwned [] n = ⊥
IsOwned (s ∷ ss) n = (is_named s.frames n ≡ true) ⊎ IsOwned ss n

abbrev pub AreOwned : List Stored → List Var → Type 0
AreOwned ss xs = AllByRecursion (λ (x : Var). IsOwned ss x.frame) xs

-- so it is of the stores of a chain, the outermost of which is the root's, these are known to be solved together, and have the frames of the ends
pub record IsReached (chain : Chained) (ends : List Var) : Type 0 where
  pub root : Stored
  pub inner : List Stored
  pub stores : chain.stores ≡ root ∷ inner
  pub known : length chain.stores ≤ chain.known
  pub are_reached : AreReached chain.nodes root inner ends
  pub owned : AreOwned chain.stores ends
