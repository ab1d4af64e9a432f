-- Laws of equality under equations.
use Rattle.std.proofs.Common.{◌≡◌, [], ◌∷◌, ◌++◌, sym, subst, ◌⊎◌, inl, inr}
use Rattle.akl_terms.specs.Tree.{Tree}
use Rattle.akl_terms.specs.Equal.{Equations, IsTold, EqualBy, Equal, told, same, turned, joined, inside, Follows, IsConsistent}

-- where each told equation holds in another relation, so does each derived one
pub EqualBy-follows : {R S : Tree → Tree → Type 0} → ((s t : Tree) → R s t → EqualBy S s t) → {s t : Tree} → EqualBy R s t → EqualBy S s t
EqualBy-follows f (told m) = f _ _ m
EqualBy-follows f same = same
EqualBy-follows f (turned p) = turned (EqualBy-follows f p)
EqualBy-follows f (joined p q) = joined (EqualBy-follows f p) (EqualBy-follows f q)
EqualBy-follows f (inside at p hs ht is_a is_b) = inside at (EqualBy-follows f p) hs ht is_a is_b

-- more equations make more terms equal
pub Equal-follows : {E F : Equations} {s t : Tree} → Follows E F → Equal E s t → Equal F s t
Equal-follows f e = EqualBy-follows (λ s t m. f.each m) e

-- what follows from what follows
pub Follows-trans : {E F G : Equations} → Follows E F → Follows F G → Follows E G
Follows-trans f g = record { each = λ m. Equal-follows g (f.each m) }

-- fewer equal terms are as consistent
pub IsConsistent-follows : {E F : Equations} → Follows E F → IsConsistent F → IsConsistent E
IsConsistent-follows f c = record { heads = λ e. c.heads (Equal-follows f e) }

-- an equation that can be derived adds nothing
pub Follows-derived : {E : Equations} {s t : Tree} → Equal E s t → Follows (record { left = s; right = t } ∷ E) E
Follows-derived {E} {s} {t} e = record { each = λ m. front m }
  where
    front : {a b : Tree} → (((a ≡ s) × (b ≡ t)) ⊎ IsTold E a b) → Equal E a b
    front {a} {b} (inl p) = subst (λ (x : Tree). Equal E x b) (sym p.0) (subst (λ (y : Tree). Equal E s y) (sym p.1) e)
    front (inr m) = told m

pub IsTold-left : (E F : Equations) (s t : Tree) → IsTold E s t → IsTold (E ++ F) s t
IsTold-left [] F s t m = absurd m
IsTold-left (e ∷ E) F s t (inl p) = inl p
IsTold-left (e ∷ E) F s t (inr m) = inr (IsTold-left E F s t m)

pub IsTold-right : (E F : Equations) (s t : Tree) → IsTold F s t → IsTold (E ++ F) s t
IsTold-right [] F s t m = m
IsTold-right (e ∷ E) F s t m = inr (IsTold-right E F s t m)

pub IsTold-either : (E F : Equations) (s t : Tree) → IsTold (E ++ F) s t → IsTold E s t ⊎ IsTold F s t
IsTold-either [] F s t m = inr m
IsTold-either (e ∷ E) F s t (inl p) = inl (inl p)
IsTold-either (e ∷ E) F s t (inr m) = elim (IsTold-either E F s t m) [ inl x ↦ inl (inr x) | inr y ↦ inr y ]

-- the order of the parts doesn't count
pub Follows-swap : (E F : Equations) → Follows (E ++ F) (F ++ E)
Follows-swap E F = record { each = λ {s} {t} m. elim (IsTold-either E F s t m) [ inl x ↦ told (IsTold-right F E s t x) | inr y ↦ told (IsTold-left F E s t y) ] }
