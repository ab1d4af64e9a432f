-- What the alternative of a call that is promoted makes of the box of the call.
use Rattle.std.specs.Prelude.{◌+◌, List, [], ◌∷◌, ◌++◌, length, ⊤}
use Rattle.akl_terms.specs.declared.name.Name.{Name}
use Rattle.akl_terms.specs.declared.name.Var.{Var}
use Rattle.akl_terms.specs.declared.program.Op.{Op}
use Rattle.akl_terms.specs.declared.term.Node.{Node}
use Rattle.akl_terms.specs.declared.term.Term.{Term}
use Rattle.local_store.specs.Parts.{ToldStore}
use Rattle.local_store.specs.Stored.{Stored}
use Rattle.local_store.specs.Promoting.{AnswersPromoted}
use Rattle.guard_plan.specs.Guards.{IsQuietInside}
use Rattle.plain_heads.specs.Joined.{own_store, JoinsPlainly}

-- the guard holds of an alternative without goals that is consistent with what is around it, and whose store is the innermost
abbrev pub HoldsFor : Op → List Node → List Stored → Type 0
HoldsFor Op.Choice nodes ss = ⊤
HoldsFor Op.Condition nodes ss = IsQuietInside nodes ss
HoldsFor Op.Commit nodes ss = IsQuietInside nodes ss
HoldsFor Op.Collect nodes ss = ⊥

-- it joins the innermost store of a path
pub record Joins (nodes : List Node) (path : List Stored) (op : Op) (own : Stored) (told : ToldStore) : Type 0 where
  pub holds : HoldsFor op nodes (path ++ own ∷ [])
  pub promoted : AnswersPromoted nodes (path ++ own ∷ []) (length path + 1) told

-- the same of an alternative that has a frame and plain bindings
pub record PlainlyJoins (nodes : List Node) (path : List Stored) (op : Op) (frame : Name) (bs : List (Var × Term)) (told : ToldStore) : Type 0 where
  pub holds : HoldsFor op nodes (path ++ own_store frame bs ∷ [])
  pub joins : JoinsPlainly nodes path frame bs told
