-- What an alternative tells over the stores around it.
use Rattle.std.specs.Prelude.{List, ◌++◌, Bool, true, false, ⊤}
use Rattle.akl_terms.specs.declared.name.Name.{Name}
use Rattle.akl_terms.specs.declared.name.Var.{Var}
use Rattle.akl_terms.specs.declared.term.Node.{Node}
use Rattle.akl_terms.specs.declared.term.Term.{Term}
use Rattle.local_store.specs.Stored.{Stored}
use Rattle.local_store.specs.Chained.{bindings_from}
use Rattle.plain_heads.specs.Plain.{ArePlain}
use Rattle.plain_heads.specs.Joined.{own_store, AreFree, KeepsBound}
use Rattle.call_plan.specs.declared.own.Own.{Own}

-- whether it has bindings alone, which aren't put into a store
abbrev pub is_plain : Own → Bool
is_plain (Own.Plain bs) = true
is_plain (Own.Store s) = false

-- the store of an alternative with a frame
abbrev pub stored : Name → Own → Stored
stored frame (Own.Plain bs) = own_store frame bs.items
stored frame (Own.Store s) = s

-- what it binds, and what is bound within the stores around it: its own bindings are found first
abbrev pub bindings_of : Own → List (Var × Term)
bindings_of (Own.Plain bs) = bs.items
bindings_of (Own.Store s) = s.bindings

abbrev pub bindings_within : List Stored → Own → List (Var × Term)
bindings_within path own = bindings_of own ++ bindings_from path

-- bindings that aren't put into a store are plain
abbrev pub IsPlainOwn : List Node → List Stored → Name → Own → Type 0
IsPlainOwn nodes path frame (Own.Plain bs) = ArePlain nodes (bindings_from path) frame bs.items
IsPlainOwn nodes path frame (Own.Store s) = ⊤

-- and of what they bind or make equal nothing is bound around them
abbrev pub BindsFree : List Stored → Own → List Var → Type 0
BindsFree path (Own.Plain bs) xs = AreFree (bindings_from path) xs
BindsFree path (Own.Store s) xs = ⊤

-- and with a store in the place of the innermost one around them nothing is free that was bound
abbrev pub OwnKeepsBound : List Stored → Own → Stored → Type 0
OwnKeepsBound path (Own.Plain bs) store = KeepsBound path store
OwnKeepsBound path (Own.Store s) store = ⊤
