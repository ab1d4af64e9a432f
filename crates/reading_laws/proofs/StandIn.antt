-- What is spared by equations that stand for others is spared by these.
use Rattle.std.proofs.Common.{◌++◌, subst, inl, inr, append_assoc}
use Rattle.akl_terms.specs.declared.name.Var.{Var}
use Rattle.akl_terms.specs.Equal.{Equations, IsTold, told, Follows, IsConsistent}
use Rattle.akl_terms.specs.Standing.{StandFor}
use Rattle.akl_terms.proofs.EqualLaws.{IsTold-left, IsTold-right, IsTold-either}
use Rattle.akl_terms.proofs.StandingLaws.{StandFor-back, StandFor-on}
use Rattle.constraint_laws.specs.StandingGrows.{AreToldIn}
use Rattle.constraint_laws.proofs.Stands.{newly_bound_stands}
use Rattle.constraint_laws.proofs.StandsGrow.{same_told_stands, stands_with_more, stands_after_more}
use Rattle.reading_laws.specs.Closed.{Spares}

-- told in longer lists
pub told_left : (E F : Equations) → AreToldIn E (E ++ F)
told_left E F = record { each = λ s t m. IsTold-left E F s t m }

pub told_more : (E F X : Equations) → AreToldIn E F → AreToldIn (E ++ X) (F ++ X)
told_more E F X h = record { each = λ s t m. elim (IsTold-either E X s t m) [ inl x ↦ IsTold-left F X s t (h.each s t x) | inr x ↦ IsTold-right F X s t x ] }

pub told_follows : (E F : Equations) → AreToldIn E F → Follows E F
told_follows E F h = record { each = λ {s} {t} m. told (h.each s t m) }

pub spares_stands : (R : Var → Type 0) (A B S U : Equations) → StandFor (IsTold S) (IsTold A) → StandFor (IsTold U) (IsTold B) → Follows A B → IsConsistent A → Spares R S U → Spares R A B
spares_stands R A B S U old new f c s = record {
  grows = f;
  consistent = new.to s.consistent;
  unbound = λ x r b. s.unbound x r (newly_bound_stands A B S U (record { stands = StandFor-back old; consistent = c }) (record { stands = StandFor-back new; consistent = new.to s.consistent }) x b);
}

-- what stands over some equations stands over more
pub stands_grown : (A B S U X Y : Equations) → StandFor (IsTold (S ++ X)) (IsTold (A ++ Y)) → StandFor (IsTold U) (IsTold B) → AreToldIn A B → AreToldIn S U → StandFor (IsTold (U ++ X)) (IsTold (B ++ Y))
stands_grown A B S U X Y inner new a s = StandFor-on one (StandFor-on (stands_after_more (S ++ X) (A ++ Y) U inner) (StandFor-on two (stands_with_more U B Y new)))
  where
    one : StandFor (IsTold (U ++ X)) (IsTold (U ++ (S ++ X)))
    one = same_told_stands (U ++ X) (U ++ (S ++ X))
        (record { each = λ p q m. elim (IsTold-either U X p q m) [ inl x ↦ IsTold-left U (S ++ X) p q x | inr x ↦ IsTold-right U (S ++ X) p q (IsTold-right S X p q x) ] })
        (record {
          each = λ p q m. elim (IsTold-either U (S ++ X) p q m) [
            | inl x ↦ IsTold-left U X p q x
            | inr x ↦ elim (IsTold-either S X p q x) [ inl y ↦ IsTold-left U X p q (s.each p q y) | inr y ↦ IsTold-right U X p q y ]
          ];
        })

    -- the first ones are told in what has grown
    inside : StandFor (IsTold (U ++ (A ++ Y))) (IsTold ((B ++ A) ++ Y))
    inside = subst (λ (E : Equations). StandFor (IsTold E) (IsTold ((B ++ A) ++ Y))) (append_assoc U A Y) (stands_with_more (U ++ A) (B ++ A) Y (stands_with_more U B A new))

    two : StandFor (IsTold (U ++ (A ++ Y))) (IsTold (U ++ Y))
    two = StandFor-on inside (StandFor-on (stands_with_more (B ++ A) B Y (same_told_stands (B ++ A) B
        (record { each = λ p q m. elim (IsTold-either B A p q m) [ inl x ↦ x | inr x ↦ a.each p q x ] }) (told_left B A))) (stands_with_more B U Y (StandFor-back new)))
