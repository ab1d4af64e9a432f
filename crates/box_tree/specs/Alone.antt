-- Stores that are solved with those around them, whatever these have become.
use Rattle.std.specs.Prelude.{Bool, true, false, List, [], ◌∷◌, Option, Some, None, if◌then◌else◌}
use Rattle.akl_terms.specs.declared.name.Name.{Name}
use Rattle.akl_terms.specs.declared.name.Var.{Var}
use Rattle.akl_terms.specs.declared.term.Term.{Term}
use Rattle.akl_terms.specs.Names.{is_before}
use Rattle.local_store.specs.Stored.{Stored, var_before, is_named}

-- an integer, a port, or a term of a frame that is older than the variable's: so if it is a variable, it is older
abbrev pub is_of_older : Var → Term → Bool
is_of_older x (Term.Mol i f) = is_before f x.frame
is_of_older x (Term.Int z) = true
is_of_older x (Term.Port p) = true

-- a variable comes behind another one, where there is one
abbrev pub is_behind : Option Var → Var → Bool
is_behind None x = true
is_behind (Some y) x = var_before y x

-- a binding of a variable of these frames that comes behind another one, to an integer, to a port or to a term of an older frame
abbrev pub may_stand : List Name → Option Var → Var × Term → Bool
may_stand frames behind b = if is_behind behind b.0 then (if is_of_older b.0 b.1 then is_named frames b.0.frame else false) else false

-- so are all of these bindings, each behind the one before
abbrev pub may_all_stand : List Name → Option Var → List (Var × Term) → Bool
may_all_stand frames behind [] = true
may_all_stand frames behind (b ∷ bs) = if may_stand frames behind b then may_all_stand frames (Some b.0) bs else false

-- a store binds variables of its own frames alone, none of them twice, and each to an integer, to a port or to a term of an older frame
abbrev pub stands_alone : Stored → Bool
stands_alone s = may_all_stand s.frames None s.bindings
