-- What a chain of stores tells, in the order of a table, its last store, and those before it.
use Rattle.std.proofs.Common.{◌≡◌, List, [], ◌∷◌, ◌++◌, refl, ap, inl, inr}
use Rattle.akl_terms.specs.declared.term.Node.{Node}
use Rattle.akl_terms.specs.Tree.{Tree}
use Rattle.akl_terms.specs.Equal.{IsTold, told}
use Rattle.akl_terms.specs.Standing.{StandFor}
use Rattle.akl_terms.proofs.EqualLaws.{IsTold-left, IsTold-right, IsTold-either}
use Rattle.akl_terms.proofs.StandingLaws.{StandFor-follows}
use Rattle.rational_unify.specs.Solving.{bindings_in}
use Rattle.local_store.specs.Stored.{Stored}
use Rattle.local_store.specs.Chained.{bindings_from, ToldBy, innermost, around}
use Rattle.local_store.proofs.Layers.{bindings-either, bindings-left, bindings-right}
use Rattle.table_laws.specs.Rows.{told_in}

-- chains list the bindings of inner stores first, tables those of outer ones

pub from_told : (nodes : List Node) (ss : List Stored) (s t : Tree) → ToldBy nodes ss s t → IsTold (told_in nodes ss) s t
from_told nodes [] s t h = h
from_told nodes (x ∷ ss) s t h = elim (bindings-either nodes (bindings_from ss) x.bindings s t h) [
  | inl y ↦ IsTold-right (bindings_in nodes x.bindings) (told_in nodes ss) s t (from_told nodes ss s t y)
  | inr y ↦ IsTold-left (bindings_in nodes x.bindings) (told_in nodes ss) s t y
]

pub to_told : (nodes : List Node) (ss : List Stored) (s t : Tree) → IsTold (told_in nodes ss) s t → ToldBy nodes ss s t
to_told nodes [] s t h = h
to_told nodes (x ∷ ss) s t h = elim (IsTold-either (bindings_in nodes x.bindings) (told_in nodes ss) s t h) [
  | inl y ↦ bindings-right nodes (bindings_from ss) x.bindings s t y
  | inr y ↦ bindings-left nodes (bindings_from ss) x.bindings s t (to_told nodes ss s t y)
]

pub told_stands : (nodes : List Node) (ss : List Stored) → StandFor (ToldBy nodes ss) (IsTold (told_in nodes ss))
told_stands nodes ss = StandFor-follows (λ s t m. told (from_told nodes ss s t m)) (λ s t m. told (to_told nodes ss s t m))

-- the innermost store of a chain
pub innermost_push : (ss : List Stored) (s : Stored) → innermost (ss ++ s ∷ []) ≡ s
innermost_push [] s = refl
innermost_push (r ∷ []) s = refl
innermost_push (r ∷ t ∷ ss) s = innermost_push (t ∷ ss) s

-- the stores around the innermost one
pub around_push : (ss : List Stored) (s : Stored) → around (ss ++ s ∷ []) ≡ ss
around_push [] s = refl
around_push (r ∷ []) s = refl
around_push (r ∷ t ∷ ss) s = ap (λ (l : List Stored). r ∷ l) (around_push (t ∷ ss) s)
