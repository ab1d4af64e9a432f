-- How members are listed: the ends of chains over a solved form, and each candidate whose chain ends in one of them.
use Rattle.std.specs.Prelude.{◌≡◌, ℕ, List, drop, [], ◌∷◌, ◌++◌, map, filter, not, is_some, Bool, ◌⊎◌}
use Rattle.std.specs.List.{list_any}
use Rattle.akl_terms.specs.declared.name.Var.{Var}
use Rattle.akl_terms.specs.declared.term.Node.{Node}
use Rattle.akl_terms.specs.declared.term.Term.{Term}
use Rattle.akl_terms.specs.Names.{same_var}
use Rattle.akl_terms.specs.Tree.{variable}
use Rattle.constraint_laws.specs.Touched.{IsAmong}
use Rattle.rational_unify.specs.Known.{found_in, end_of}
use Rattle.local_store.specs.Stored.{Stored}

-- the chain of one of these variables ends in a variable
pub record IsEndOfOne (nodes : List Node) (bs : List (Var × Term)) (of : List Var) (r : Var) : Type 0 where
  pub start : Var
  pub among : IsAmong start of
  pub ends : end_of nodes bs (variable start) ≡ variable r

-- the chains of these variables end in those of a list, and in no others
pub record AreEnds (nodes : List Node) (bs : List (Var × Term)) (of list : List Var) : Type 0 where
  pub each : (r : Var) → IsAmong r list → IsEndOfOne nodes bs of r
  pub every : (r : Var) → IsEndOfOne nodes bs of r → IsAmong r list

-- a variable's chain ends in a variable of the list
pub record EndsAmong (nodes : List Node) (bs : List (Var × Term)) (list : List Var) (x : Var) : Type 0 where
  pub end : Var
  pub ends : end_of nodes bs (variable x) ≡ variable end
  pub there : IsAmong end list

-- the keys of a set have a variable
abbrev pub has : List Var → Var → Bool
has keys r = list_any (same_var r) keys

-- the set has the variables behind the first few of the list, and no others
pub record IsRest (few : ℕ) (keys list : List Var) : Type 0 where
  pub each : (x : Var) → has keys x ≡ has (drop few list) x

-- the ends, and of the candidates those whose chains end in one of them
pub record AreListed (nodes : List Node) (bs : List (Var × Term)) (of candidates list : List Var) : Type 0 where
  pub each : (y : Var) → IsAmong y list → IsEndOfOne nodes bs of y ⊎ (IsAmong y candidates × ((r : Var) × IsEndOfOne nodes bs of r × (end_of nodes bs (variable y) ≡ variable r)))
  pub ends : (r : Var) → IsEndOfOne nodes bs of r → IsAmong r list
  pub others : (y r : Var) → IsAmong y candidates → IsEndOfOne nodes bs of r → end_of nodes bs (variable y) ≡ variable r → IsAmong y list

-- the variables of bindings that a store doesn't bind
abbrev pub unbound_keys : Stored → List (Var × Term) → List Var
unbound_keys outermost bs = map (λ (b : Var × Term). b.0) (filter (λ (b : Var × Term). not (is_some (found_in outermost.bindings b.0))) bs)

-- those of all inner stores
abbrev pub unbound_inside : Stored → List Stored → List Var
unbound_inside outermost [] = []
unbound_inside outermost (s ∷ ss) = unbound_keys outermost s.bindings ++ unbound_inside outermost ss

abbrev pub inner_keys : List Stored → List Var
inner_keys [] = []
inner_keys (s ∷ ss) = unbound_inside s ss

-- of stores that are solved together what the inner ones bind and the outermost doesn't, and what is added to them
abbrev pub candidates_of : List Stored → List (Var × Term) → List Var
candidates_of ss added = inner_keys ss ++ map (λ (b : Var × Term). b.0) added
