-- The store that plain bindings join.
use Rattle.std.specs.Prelude.{◌≡◌, ◌+◌, List, [], ◌∷◌, ◌++◌, length, None}
use Rattle.std.specs.List.{AllByRecursion}
use Rattle.akl_terms.specs.declared.name.Name.{Name}
use Rattle.akl_terms.specs.declared.name.Var.{Var}
use Rattle.akl_terms.specs.declared.term.Node.{Node}
use Rattle.akl_terms.specs.declared.term.Term.{Term}
use Rattle.akl_terms.specs.Template.{tree}
use Rattle.rational_unify.specs.Known.{found_in}
use Rattle.local_store.specs.Bound.{variable_in}
use Rattle.local_store.specs.Parts.{ToldStore}
use Rattle.local_store.specs.Promoting.{AnswersPromoted}
use Rattle.local_store.specs.Stored.{Stored, nothing, with_frame, with_bindings}
use Rattle.local_store.specs.Chained.{bindings_from, replaced}

-- the store of a frame that has these bindings
abbrev pub own_store : Name → List (Var × Term) → Stored
own_store frame bs = with_bindings (with_frame nothing frame) bs

-- the variables of bindings, each with the one that it is bound to, where that is a variable
abbrev pub listed : List Node → List (Var × Term) → List Var
listed nodes [] = []
listed nodes (b ∷ bs) = b.0 ∷ variable_in (tree nodes b.1) ++ listed nodes bs

-- known bindings bind none of these variables
abbrev pub AreFree : List (Var × Term) → List Var → Type 0
AreFree known xs = AllByRecursion (λ x. found_in known x ≡ None) xs

-- with another store in the innermost place nothing is free that was bound
abbrev pub KeepsBound : List Stored → Stored → Type 0
KeepsBound path store = (x : Var) → found_in (bindings_from (replaced path store)) x ≡ None → found_in (bindings_from path) x ≡ None

-- a frame and plain bindings of its variables join the innermost store of a path, as if the store that has these alone were promoted
pub record JoinsPlainly (nodes : List Node) (path : List Stored) (frame : Name) (bs : List (Var × Term)) (told : ToldStore) : Type 0 where
  pub promoted : AnswersPromoted nodes (path ++ own_store frame bs ∷ []) (length path + 1) told
  pub free : AreFree (bindings_from path) told.bound
  pub kept : KeepsBound path told.store
