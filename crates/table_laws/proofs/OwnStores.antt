-- What a box's own store tells, and the same store with a part.
use Rattle.std.proofs.Common.{◌≡◌, List, ◌++◌, Some, refl, subst, ◌⊎◌, inl, inr}
use Rattle.akl_terms.specs.declared.name.Var.{Var}
use Rattle.akl_terms.specs.declared.term.Node.{Node}
use Rattle.akl_terms.specs.declared.term.Term.{Term}
use Rattle.akl_terms.specs.Tree.{Tree}
use Rattle.akl_terms.specs.Equal.{Equations, IsTold}
use Rattle.akl_terms.specs.Standing.{StandFor}
use Rattle.akl_terms.proofs.EqualLaws.{IsTold-left, IsTold-right, IsTold-either}
use Rattle.akl_terms.proofs.StandingLaws.{StandFor-back, StandFor-on}
use Rattle.constraint_laws.specs.StandingGrows.{AreToldIn}
use Rattle.constraint_laws.proofs.StandsGrow.{stands_with_more, same_told_stands}
use Rattle.akl_model.specs.Config.{Config, Found, environment, whole, box_at}
use Rattle.akl_model.specs.Wakes.{names_around}
use Rattle.akl_model.proofs.NamesKept.{Stand}
use Rattle.rational_unify.specs.Solving.{bindings_in}
use Rattle.local_store.specs.Stored.{joins}
use Rattle.local_store.proofs.Layers.{joins-told, told-joins}
use Rattle.table_laws.specs.Rows.{BoxRow, Table, store_in}
use Rattle.table_laws.specs.Unfolds.{IsBoxRow, Unfolds}
use Rattle.table_laws.proofs.Stores.{told_along, told_last}
use Rattle.table_laws.proofs.Frame.{around_stands, row_of}

-- over what stands for the equations around a box, its own store stands for those down to it
pub own_stands : (T : Table) (c : Config) → Stand c → Unfolds T c → (f : Found) → box_at f.content.name c.roots ≡ Some f → (D : Equations) → StandFor (IsTold D) (IsTold (environment f))
    → StandFor (IsTold (D ++ bindings_in T.nodes (store_in (T.box_of f.content.name)).bindings)) (IsTold (whole f))
own_stands T c s u f is D h =
    let row : (r : BoxRow) × (T.box_of f.content.name ≡ Some r) × IsBoxRow T c.roots f r = row_of T c u f.content.name f is in
    StandFor-on
    (stands_with_more D (told_along T (names_around f)) (bindings_in T.nodes (store_in (T.box_of f.content.name)).bindings) (StandFor-on h (StandFor-back (around_stands T c s u f.content.name f is))))
    (subst (λ (E : Equations). StandFor (IsTold E) (IsTold (whole f))) (told_last T (names_around f) f.content.name (store_in (T.box_of f.content.name)) refl) row.2.stands)

-- bindings that joined others are told behind them
pub joined_stands : (nodes : List Node) (D : Equations) (old part : List (Var × Term)) → StandFor (IsTold (D ++ bindings_in nodes (joins old part))) (IsTold ((D ++ bindings_in nodes old) ++ bindings_in nodes part))
joined_stands nodes D old part = same_told_stands (D ++ bindings_in nodes (joins old part)) ((D ++ bindings_in nodes old) ++ bindings_in nodes part) forth back
  where
    forth : AreToldIn (D ++ bindings_in nodes (joins old part)) ((D ++ bindings_in nodes old) ++ bindings_in nodes part)
    forth = record {
      each = λ x y m. elim (IsTold-either D (bindings_in nodes (joins old part)) x y m) [
        | inl u ↦ IsTold-left (D ++ bindings_in nodes old) (bindings_in nodes part) x y (IsTold-left D (bindings_in nodes old) x y u)
        | inr u ↦ elim (joins-told nodes old part x y u) [
          | inl v ↦ IsTold-left (D ++ bindings_in nodes old) (bindings_in nodes part) x y (IsTold-right D (bindings_in nodes old) x y v)
          | inr v ↦ IsTold-right (D ++ bindings_in nodes old) (bindings_in nodes part) x y v
        ]
      ];
    }

    old_too : (x y : Tree) → IsTold (bindings_in nodes old) x y ⊎ IsTold (bindings_in nodes part) x y → IsTold (D ++ bindings_in nodes (joins old part)) x y
    old_too x y u = IsTold-right D (bindings_in nodes (joins old part)) x y (told-joins nodes old part x y u)

    back : AreToldIn ((D ++ bindings_in nodes old) ++ bindings_in nodes part) (D ++ bindings_in nodes (joins old part))
    back = record {
      each = λ x y m. elim (IsTold-either (D ++ bindings_in nodes old) (bindings_in nodes part) x y m) [
        | inl u ↦ elim (IsTold-either D (bindings_in nodes old) x y u) [ inl v ↦ IsTold-left D (bindings_in nodes (joins old part)) x y v | inr v ↦ old_too x y (inl v) ]
        | inr u ↦ old_too x y (inr u)
      ];
    }
