-- What a store stands for to which equations were told.
use Rattle.std.proofs.Common.{◌≡◌, ℕ, List, [], ◌∷◌, ◌++◌, ◌∙◌, ap, subst, inl, inr, append-nil}
use Rattle.akl_terms.specs.declared.term.Node.{Node}
use Rattle.akl_terms.specs.declared.term.Equation as code
use Rattle.akl_terms.specs.Tree.{Tree}
use Rattle.akl_terms.specs.Equal.{Equations, IsTold, EqualBy, told}
use Rattle.akl_terms.specs.Standing.{StandFor}
use Rattle.akl_terms.proofs.EqualLaws.{IsTold-left, IsTold-right, IsTold-either}
use Rattle.akl_terms.proofs.StandingLaws.{StandFor-follows, StandFor-back, StandFor-on}
use Rattle.constraint_laws.proofs.StandsGrow.{stands_with_more}
use Rattle.rational_unify.specs.Solving.{bindings_in, equations_in}
use Rattle.local_store.specs.Stored.{Stored}
use Rattle.local_store.specs.Chained.{ToldBy, around, replaced}
use Rattle.local_store.specs.Telling.{ToldAlso, Tells}
use Rattle.table_laws.specs.Rows.{told_in}
use Rattle.table_laws.proofs.Stores.{told_join}
use Rattle.table_laws.proofs.StoreChains.{from_told, to_told, told_stands}

-- what the stores around and the new store tell, stands for what all stores told and the equations
pub tells_stands : (nodes : List Node) (ss : List Stored) (known : ℕ) (es : List code.Equation) (new : Stored) → Tells nodes ss known es new
    → StandFor (IsTold (told_in nodes ss ++ equations_in nodes es)) (IsTold (told_in nodes (around ss) ++ bindings_in nodes new.bindings))
tells_stands nodes ss known es new t = StandFor-on (StandFor-follows apart together) (StandFor-on t.stands
    (subst (λ (E : Equations). StandFor (ToldBy nodes (replaced ss new)) (IsTold E)) last (told_stands nodes (replaced ss new))))
  where
    apart : (a b : Tree) → IsTold (told_in nodes ss ++ equations_in nodes es) a b → EqualBy (ToldAlso nodes ss es) a b
    apart a b m = elim (IsTold-either (told_in nodes ss) (equations_in nodes es) a b m) [ inl x ↦ told (inl (to_told nodes ss a b x)) | inr y ↦ told (inr y) ]

    together : (a b : Tree) → ToldAlso nodes ss es a b → EqualBy (IsTold (told_in nodes ss ++ equations_in nodes es)) a b
    together a b m = elim m [
      | inl x ↦ told (IsTold-left (told_in nodes ss) (equations_in nodes es) a b (from_told nodes ss a b x))
      | inr y ↦ told (IsTold-right (told_in nodes ss) (equations_in nodes es) a b y)
    ]

    last : told_in nodes (replaced ss new) ≡ told_in nodes (around ss) ++ bindings_in nodes new.bindings
    last = told_join nodes (around ss) (new ∷ []) ∙ ap (λ (E : Equations). told_in nodes (around ss) ++ E) (append-nil (bindings_in nodes new.bindings))

-- what is told around may be exchanged for what it stands for, before and afterwards
pub around_exchanged : (D A P W B E : Equations) → StandFor (IsTold D) (IsTold A) → StandFor (IsTold P) (IsTold W) → StandFor (IsTold (P ++ E)) (IsTold (A ++ B)) → StandFor (IsTold (D ++ B)) (IsTold (W ++ E))
around_exchanged D A P W B E d w t = StandFor-on (stands_with_more D A B d) (StandFor-on (StandFor-back t) (stands_with_more P W E w))
