-- Laws of equations that stand for others.
use Rattle.std.proofs.Common.{ℕ, zero, suc, inl, inr}
use Rattle.akl_terms.specs.Tree.{Tree}
use Rattle.akl_terms.specs.Equal.{EqualBy, IsConsistentBy}
use Rattle.akl_terms.specs.Solved.{IsUnstructured, SameIn, SameTree}
use Rattle.akl_terms.specs.Standing.{StandFor}
use Rattle.akl_terms.proofs.EqualLaws.{EqualBy-follows}

pub IsConsistentBy-follows : {R S : Tree → Tree → Type 0} → ((s t : Tree) → R s t → EqualBy S s t) → IsConsistentBy S → IsConsistentBy R
IsConsistentBy-follows f c = record { heads = λ e. c.heads (EqualBy-follows f e) }

pub SameIn-follows : {R S : Tree → Tree → Type 0} → ((s t : Tree) → R s t → EqualBy S s t) → ((s t : Tree) → S s t → EqualBy R s t)
    → (n : ℕ) (s t : Tree) → SameIn R n s t → SameIn S n s t
SameIn-follows {R} {S} f g zero s t m = tt
SameIn-follows {R} {S} f g (suc n) s t m = on m (λ a b p. SameIn-follows f g n a b p)
  where
    on : SameIn R (suc n) s t → ((a b : Tree) → SameIn R n a b → SameIn S n a b) → SameIn S (suc n) s t
    on (inl w) low = inl (EqualBy-follows f w.0, λ u h e i. w.1 u h (EqualBy-follows g e) i)
    on (inr w) low = inr (w.0, w.1, w.2, EqualBy-follows f w.3, EqualBy-follows f w.4, w.5, w.6, λ k a b p q. low a b (w.7 k a b p q))

-- relations that follow from each other stand for each other
pub StandFor-follows : {R S : Tree → Tree → Type 0} → ((s t : Tree) → R s t → EqualBy S s t) → ((s t : Tree) → S s t → EqualBy R s t) → StandFor R S
StandFor-follows f g = record {
  to = IsConsistentBy-follows g;
  back = IsConsistentBy-follows f;
  same_to = λ c s t m n. SameIn-follows f g n s t (m n);
  same_back = λ c s t m n. SameIn-follows g f n s t (m n);
}

pub StandFor-back : {R S : Tree → Tree → Type 0} → StandFor R S → StandFor S R
StandFor-back h = record { to = h.back; back = h.to; same_to = λ c. h.same_back (h.back c); same_back = λ c. h.same_to (h.back c) }

pub StandFor-on : {R S T : Tree → Tree → Type 0} → StandFor R S → StandFor S T → StandFor R T
StandFor-on h k = record {
  to = λ c. k.to (h.to c);
  back = λ c. h.back (k.back c);
  same_to = λ c s t m. k.same_to (h.to c) s t (h.same_to c s t m);
  same_back = λ c s t m. h.same_back c s t (k.same_back (h.to c) s t m);
}

-- same trees that aren't structured are equal
pub same_equal : {R : Tree → Tree → Type 0} (s t : Tree) → SameTree R s t → IsUnstructured R s → EqualBy R s t
same_equal {R} s t m f = on (m 1)
  where
    on : SameIn R 1 s t → EqualBy R s t
    on (inl w) = w.0
    on (inr w) = absurd (f w.0 w.2 w.3 w.5)
