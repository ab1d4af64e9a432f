-- Copies of boxes are copies where more is told around them.
use Rattle.std.proofs.Common.{List, ◌++◌, Option, Some, None, sym, subst, append_assoc}
use Rattle.akl_terms.specs.declared.term.Node.{Node}
use Rattle.akl_terms.specs.Equal.{Equations, IsTold}
use Rattle.akl_terms.specs.Standing.{StandFor}
use Rattle.akl_terms.proofs.EqualLaws.{IsTold-left, IsTold-right, IsTold-either}
use Rattle.std.proofs.Common.{inl, inr}
use Rattle.constraint_laws.specs.StandingGrows.{AreToldIn}
use Rattle.constraint_laws.proofs.StandsGrow.{same_told_stands, stands_over, stands_within}
use Rattle.akl_model.specs.Config.{Boxes, Found, environment, box_at}
use Rattle.rational_unify.specs.Solving.{bindings_in}
use Rattle.table_laws.specs.Steps.{BoxCopy, IsCopy, AreCopies, copy_among}
use Rattle.table_laws.specs.Unfolds.{AreBoth}

both_map : {A B : Type 0} (P Q : A → B → Type 0) → ((x : A) (y : B) → P x y → Q x y) → (a : Option A) (b : Option B) → AreBoth P a b → AreBoth Q a b
both_map P Q h None None x = tt
both_map P Q h None (Some b) x = absurd x
both_map P Q h (Some a) None x = absurd x
both_map P Q h (Some a) (Some b) x = h a b x

module _ (nodes : List Node) (E G : Equations) (bs : Boxes) (grows : AreToldIn E G) where
  more : (X : Equations) → AreToldIn (E ++ X) (G ++ X)
  more X = record { each = λ s t h. elim (IsTold-either E X s t h) [ inl x ↦ IsTold-left G X s t (grows.each s t x) | inr x ↦ IsTold-right G X s t x ] }

  is_copy : (f : Found) (k : BoxCopy) → IsCopy nodes E bs f k → IsCopy nodes G bs f k
  is_copy f k x = record {
    holder = x.holder;
    frames = x.frames;
    ports = x.ports;
    stands = λ D d. subst (λ (F : Equations). StandFor (IsTold (D ++ bindings_in nodes k.store.bindings)) (IsTold F)) (append_assoc G (environment f) f.content.equations)
        (stands_over D (G ++ environment f) (bindings_in nodes k.store.bindings) f.content.equations d
        (stands_within (E ++ environment f) (bindings_in nodes k.store.bindings) f.content.equations (G ++ environment f) (more (environment f))
        (subst (λ (F : Equations). StandFor (IsTold ((E ++ environment f) ++ bindings_in nodes k.store.bindings)) (IsTold F)) (sym (append_assoc E (environment f) f.content.equations))
        (x.stands (E ++ environment f) (same_told_stands (E ++ environment f) (E ++ environment f) (record { each = λ s t h. h }) (record { each = λ s t h. h }))))));
    goals = x.goals;
    body = x.body;
    shown = x.shown;
    collected = x.collected;
  }

  pub copies_around : (copies : List BoxCopy) → AreCopies nodes E bs copies → AreCopies nodes G bs copies
  copies_around copies x = record { each = λ n. both_map (IsCopy nodes E bs) (IsCopy nodes G bs) is_copy (box_at n bs) (copy_among copies n) (x.each n); once = x.once }
