-- Equations beside others that bind no variable in common with them.
use Rattle.std.proofs.Common.{◌≡◌, [], ◌++◌, subst, ◌⊎◌, inl, inr}
use Rattle.std.specs.Prelude.{◌↔◌, ⊤}
use Rattle.akl_terms.specs.declared.name.Var.{Var}
use Rattle.akl_terms.specs.Tree.{Tree, Trees, none, more, variable, integer, port, symbol}
use Rattle.akl_terms.specs.Equal.{Equations, Equal, told, turned, joined, Follows, IsConsistent, IsStructured}
use Rattle.akl_terms.proofs.EqualLaws.{Equal-follows, IsTold-right, IsTold-either}
use Rattle.constraint_laws.specs.Bound.{IsNewlyBound}
use Rattle.constraint_laws.specs.Growth.{IsOver, AreOver}
use Rattle.constraint_laws.proofs.Beside.{left_follows}
use Rattle.constraint_laws.proofs.Decided.{equal_or, structured_or}
use Rattle.constraint_laws.proofs.Grown.{Headed, term_headed_or}
use Rattle.akl_terms.specs.Touching.{Touches}
use Rattle.constraint_laws.proofs.TouchedLists.{touches_or}
use Rattle.constraint_laws.proofs.Joint.{IsUntold, Apart, whole_consistent, headed_whole, equal_whole}

mutual
  pub any_term : (t : Tree) → IsOver (λ x. ⊤) t
  any_term (variable x) = tt
  any_term (integer z) = tt
  any_term (port q) = tt
  any_term (symbol f ts) = any_terms ts

  any_terms : (ts : Trees) → AreOver (λ x. ⊤) ts
  any_terms none = tt
  any_terms (more t ts) = (any_term t, any_terms ts)

module _ (E G C : Equations) (grows : Follows E G) (consistent : IsConsistent G) (own : IsConsistent (E ++ C)) (apart : (x : Var) → IsNewlyBound E (E ++ C) x → IsNewlyBound E G x → ⊥) where
  inner : Follows (E ++ C) (G ++ C)
  inner = record { each = λ {s} {t} m. elim (IsTold-either E C s t m) [ inl x ↦ Equal-follows (left_follows G C) (grows.each x) | inr y ↦ told (IsTold-right G C s t y) ] }

  -- a variable that isn't newly bound keeps its class
  untold : (A : Equations) → (x : Var) → (IsStructured E x → ⊥) → (IsNewlyBound E A x → ⊥) → IsUntold (λ x. ⊤) E A x
  untold A x n k = record {
    unstructured = λ w. k (record { unstructured = n; told = inl w });
    equal = λ y o m e. elim (equal_or E (variable x) (variable y)) [ inl q ↦ q | inr d ↦ absurd (k (record { unstructured = n; told = inr (y, e, d) })) ];
  }

  -- what is told to a variable binds it
  touch_binds : (x : Var) → Touches [] E (E ++ C) x → IsNewlyBound E (E ++ C) x
  touch_binds x t = record { unstructured = t.unbound.unstructured; told = elim t.told [ inl w ↦ inl w | inr (y, tie) ↦ inr (y, tie.equal, tie.apart) ] }

  untouched : (x : Var) → (IsStructured E x → ⊥) → (Touches [] E (E ++ C) x → ⊥) → IsUntold (λ x. ⊤) E (E ++ C) x
  untouched x n k = record {
    unstructured = λ w. k (record { unbound = record { outside = λ l. l; unstructured = n }; told = inl w });
    equal = λ y o m e. elim (equal_or E (variable x) (variable y)) [
      | inl q ↦ q
      | inr d ↦ absurd (k (record { unbound = record { outside = λ l. l; unstructured = n }; told = inr (y, record { other = record { outside = λ l. l; unstructured = m }; equal = e; apart = d }) }))
    ];
  }

  beside : Apart (λ x. ⊤) E (E ++ C) G (G ++ C)
  beside = record {
    to_own = left_follows E C;
    to_grown = grows;
    own_whole = inner;
    grown_whole = left_follows G C;
    parts = λ s t m. elim (IsTold-either G C s t m) [ inl x ↦ inr (told x, any_term s, any_term t) | inr x ↦ inl (IsTold-right E C s t x) ];
    closed = λ p q o e. any_term q;
    own_consistent = own;
    grown_consistent = consistent;
    apart = λ x o n. elim (touches_or [] E (E ++ C) x) [ inl t ↦ inr (untold G x n (apart x (touch_binds x t))) | inr t ↦ inl (untouched x n t) ];
  }

  pub beside_consistent : IsConsistent (G ++ C)
  beside_consistent = whole_consistent (λ x. ⊤) E (E ++ C) G (G ++ C) beside

  -- what C binds over E it binds over G
  forth : (x : Var) → IsNewlyBound E (E ++ C) x → IsNewlyBound G (G ++ C) x
  forth x b = record { unstructured = kept.unstructured; told = on b.told }
    where
      kept : IsUntold (λ x. ⊤) E G x
      kept = untold G x b.unstructured (apart x b)

      on : IsStructured (E ++ C) x ⊎ ((y : Var) × Equal (E ++ C) (variable x) (variable y) × (Equal E (variable x) (variable y) → ⊥)) → IsStructured (G ++ C) x ⊎ ((y : Var) × Equal (G ++ C) (variable x) (variable y) × (Equal G (variable x) (variable y) → ⊥))
      on (inl w) = inl (w.0, w.1, Equal-follows inner w.2, w.3)
      on (inr (y, e, d)) = elim (structured_or E y) [
        | inl w ↦ inl (w.0, w.1, Equal-follows inner (joined e (Equal-follows (left_follows E C) w.2)), w.3)
        | inr n ↦ inr (y, Equal-follows inner e, λ f. d (kept.equal y tt n f))
      ]

  -- and nothing else
  module _ (x : Var) (b : IsNewlyBound G (G ++ C) x) where
    was : IsStructured E x → ⊥
    was w = b.unstructured (w.0, w.1, Equal-follows grows w.2, w.3)

    -- a variable that is told nothing by C has no head in the whole
    no_head : IsUntold (λ x. ⊤) E (E ++ C) x → Headed (G ++ C) (variable x) → ⊥
    no_head u w = elim (headed_whole (λ x. ⊤) E (E ++ C) G (G ++ C) beside (variable x) w) [
      | inl v ↦ u.unstructured v
      | inr (p, o, e, v) ↦ elim (term_headed_or (E ++ C) p) [
        | inl k ↦ u.unstructured (k.0, k.1, joined e k.2, k.3)
        | inr (y, q, n) ↦ at y (subst (λ (t : Tree). Equal (E ++ C) (variable x) t) q e) n (subst (Headed G) q v)
      ]
    ]
      where
        at : (y : Var) → Equal (E ++ C) (variable x) (variable y) → (IsStructured (E ++ C) y → ⊥) → Headed G (variable y) → ⊥
        at y e n v =
            let f : Equal E (variable x) (variable y) = u.equal y tt (λ w. n (w.0, w.1, Equal-follows (left_follows E C) w.2, w.3)) e in
            b.unstructured (v.0, v.1, joined (Equal-follows grows f) v.2, v.3)

    class_kept : IsUntold (λ x. ⊤) E (E ++ C) x → (y : Var) → Equal (G ++ C) (variable x) (variable y) → Equal G (variable x) (variable y)
    class_kept u y e = elim (equal_whole (λ x. ⊤) E (E ++ C) G (G ++ C) beside (variable x) (variable y) e (no_head u)) [
      | inl f ↦ Equal-follows grows (own_class y f)
      | inr (p, q, o, i, f, m, h) ↦ on p q f m h (term_headed_or (G ++ C) p) (term_headed_or (G ++ C) q)
    ]
      where
        low : (t : Tree) → Equal (G ++ C) (variable x) t → Headed (G ++ C) t → ⊥
        low t e w = no_head u (w.0, w.1, joined e w.2, w.3)

        own_class : (z : Var) → Equal (E ++ C) (variable x) (variable z) → Equal E (variable x) (variable z)
        own_class z f = u.equal z tt (λ w. low (variable z) (Equal-follows inner f) (w.0, w.1, Equal-follows inner (Equal-follows (left_follows E C) w.2), w.3)) f

        on : (p q : Tree) → Equal (E ++ C) (variable x) p → Equal G p q → Equal (E ++ C) q (variable y) → Headed (G ++ C) p ⊎ ((z : Var) × (p ≡ variable z) × (IsStructured (G ++ C) z → ⊥))
            → Headed (G ++ C) q ⊎ ((z : Var) × (q ≡ variable z) × (IsStructured (G ++ C) z → ⊥)) → Equal G (variable x) (variable y)
        on p q f m h (inl w) k = absurd (low p (Equal-follows inner f) w)
        on p q f m h (inr z) (inl w) = absurd (low q (joined (Equal-follows inner f) (Equal-follows (left_follows G C) m)) w)
        on p q f m h (inr (v, rv, nv)) (inr (z, rz, nz)) =
            let f' : Equal E (variable x) (variable v) = own_class v (subst (λ (t : Tree). Equal (E ++ C) (variable x) t) rv f) in
            let m' : Equal G (variable v) (variable z) = subst (λ (t : Tree). Equal G t (variable z)) rv (subst (λ (t : Tree). Equal G p t) rz m) in
            let h' : Equal (E ++ C) (variable z) (variable y) = subst (λ (t : Tree). Equal (E ++ C) t (variable y)) rz h in
            last v z f' m' h' (λ w. nz (w.0, w.1, Equal-follows inner (Equal-follows (left_follows E C) w.2), w.3)) (touches_or [] E (E ++ C) z)
          where
            last : (v z : Var) → Equal E (variable x) (variable v) → Equal G (variable v) (variable z) → Equal (E ++ C) (variable z) (variable y) → (IsStructured E z → ⊥) → Touches [] E (E ++ C) z ⊎ (Touches [] E (E ++ C) z → ⊥)
                → Equal G (variable x) (variable y)
            last v z f' m' h' n (inr t) =
                let ny : IsStructured E y → ⊥ = λ w. low (variable y) e (w.0, w.1, Equal-follows inner (Equal-follows (left_follows E C) w.2), w.3) in
                joined (Equal-follows grows f') (joined m' (Equal-follows grows ((untouched z n t).equal y tt ny h')))
            -- C tells it: then it keeps its class in what has grown, and x would be told too
            last v z f' m' h' n (inl t) =
                let kept : IsUntold (λ x. ⊤) E G z = untold G z n (apart z (touch_binds z t)) in
                let g : Equal E (variable z) (variable x) = kept.equal x tt was (turned (joined (Equal-follows grows f') m')) in
                let back : Equal E (variable x) (variable y) = own_class y (joined (turned (Equal-follows (left_follows E C) g)) h') in
                Equal-follows grows back

    back : IsNewlyBound E (E ++ C) x
    back = elim (touches_or [] E (E ++ C) x) [ inl t ↦ touch_binds x t | inr t ↦ absurd (no (untouched x was t)) ]
      where
        no : IsUntold (λ x. ⊤) E (E ++ C) x → ⊥
        no u = elim b.told [ inl w ↦ no_head u w | inr (y, e, d) ↦ d (class_kept u y e) ]

  pub beside_binds : (x : Var) → IsNewlyBound E (E ++ C) x ↔ IsNewlyBound G (G ++ C) x
  beside_binds x = (forth x, λ b. back x b)

pub beside_law : (E G C : Equations) → Follows E G → IsConsistent G → IsConsistent (E ++ C) → ((x : Var) → IsNewlyBound E (E ++ C) x → IsNewlyBound E G x → ⊥)
    → IsConsistent (G ++ C) × ((x : Var) → IsNewlyBound E (E ++ C) x ↔ IsNewlyBound G (G ++ C) x)
beside_law E G C f g o a = (beside_consistent E G C f g o a, beside_binds E G C f g o a)
