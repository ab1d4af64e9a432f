-- Partitions of the nodes of a graph, and the same tree.
use Rattle.std.proofs.Common.{◌≡◌, ◌≢◌, ℕ, zero, suc, List, ◌∷◌, refl, sym, ◌∙◌, ap, inl, inr, Some, Bool, true, false}
use Rattle.std.proofs.lemmas.Bool.{eqb-true, eqb-false}
use Rattle.std.specs.Prelude.{slice_get, ◌⊎◌, ◌==◌}
use Rattle.akl_terms.specs.Tree.{Tree, Head, head_of, arguments}
use Rattle.akl_terms.specs.Equal.{Equations, Equal, IsTold, same, turned, joined, IsConsistent}
use Rattle.akl_terms.specs.Solved.{SameIn}
use Rattle.answer_text.specs.Printed.{IsFree}
use Rattle.answer_text.specs.Cyclic.{SameTree, LeadsTo, stays, goes, IsCyclic}
use Rattle.answer_text.specs.Graph.{Graph, Stands, IsChild, IsGraphOf, AgreeIn, one_class, one_head, IsStable, IsFair, Walks, at, on, ComesBack}
use Rattle.akl_terms.proofs.Arguments.{partner}
use Rattle.answer_text.proofs.SameTrees.{headed, In-equal, In-turned, Same-equal', equal-inside}

-- nodes of one block are the same down to each depth
stable-in : (E : Equations) → (c : IsConsistent E) → (g : Graph) (block : ℕ → ℕ) → IsGraphOf E g → IsStable E g block
    → (n i j : ℕ) (s t : Tree) → Stands g i s → Stands g j t → block i ≡ block j → SameIn (IsTold E) n s t
stable-in E c g block r b zero i j s t p q e = tt
stable-in E c g block r b (suc n) i j s t p q e = from (stable-in E c g block r b n) (b.agree i j s t p q e)
  where
    from : ((i j : ℕ) (s t : Tree) → Stands g i s → Stands g j t → block i ≡ block j → SameIn (IsTold E) n s t) → AgreeIn E g block i j s t → SameIn (IsTold E) (suc n) s t
    from ih (one_class f m) = inl (m, λ u h x y. f.free u h x y)
    from ih (one_head {h = h} x y z) = inr (
      s,
      t,
      h,
      same,
      same,
      x,
      y,
      λ k a d ia id.
          let v : (m : ℕ) × IsChild g i k m × (u : Tree) × Stands g m u × Equal E a u = r.argument i k s a p ia in
          let w : (m : ℕ) × IsChild g j k m × (u : Tree) × Stands g m u × Equal E d u = r.argument j k t d q id in
          let l : SameIn (IsTold E) n v.2 w.2 = ih v.0 w.0 v.2 w.2 v.3 w.3 (z k v.0 w.0 v.1 w.1) in
          In-equal E c n v.2 a d v.4 (In-turned E c n d v.2 (In-equal E c n w.2 d v.2 w.4 (In-turned E c n v.2 w.2 l))),
    )

pub stable-same : (E : Equations) → IsConsistent E → (g : Graph) (block : ℕ → ℕ) → IsGraphOf E g → IsStable E g block
    → (i j : ℕ) (s t : Tree) → Stands g i s → Stands g j t → block i ≡ block j → SameTree E s t
stable-same E c g block r b i j s t p q e n = stable-in E c g block r b n i j s t p q e

-- a walk through the graph leads through the terms
walks-leads : (E : Equations) (g : Graph) → IsGraphOf E g → (ks : List ℕ) (i m : ℕ) (s s' : Tree) → Stands g i s → Equal E s' s → Walks g ks i m
    → (t : Tree) × (u : Tree) × LeadsTo E ks s' t × Stands g m u × Equal E t u
walks-leads E g r ks i m s s' p e at = (s', s, stays, p, e)
walks-leads E g r ks i m s s' p e (on {j = j} k x w) =
    let a : (a : Tree) × (slice_get (arguments s) k ≡ Some a) × (u : Tree) × Stands g j u × Equal E a u = r.child i k j s p x in
    let z : (t : Tree) × (u : Tree) × LeadsTo E _ a.0 t × Stands g m u × Equal E t u = walks-leads E g r _ j m a.2 a.0 a.3 a.4 w in
    (z.0, z.1, goes k e a.1 z.2, z.3, z.4)

-- what leads through the terms walks through the graph
pub leads-walks : (E : Equations) → IsConsistent E → (g : Graph) → IsGraphOf E g → {ks : List ℕ} {s' t : Tree} (i : ℕ) (s : Tree) → Stands g i s → Equal E s' s → LeadsTo E ks s' t
    → (m : ℕ) × (u : Tree) × Walks g ks i m × Stands g m u × Equal E t u
leads-walks E c g r i s p e stays = (i, s, at, p, e)
leads-walks E c g r {t = t} i s p e (goes {u = u} {a = a} {ks = ks} k q x l) = from (r.ends i s p) (λ j w y z. leads-walks E c g r {ks = ks} {s' = a} {t = t} j w y z l)
  where
    h : (h : Head) × (head_of u ≡ Some h)
    h = headed u k a x

    from : IsFree E s ⊎ ((h : Head) × (head_of s ≡ Some h)) → ((j : ℕ) (w : Tree) → Stands g j w → Equal E a w → (m : ℕ) × (v : Tree) × Walks g ks j m × Stands g m v × Equal E t v)
        → (m : ℕ) × (v : Tree) × Walks g (k ∷ ks) i m × Stands g m v × Equal E t v
    from (inl f) ih = absurd (f.free u h.0 (joined (turned e) q) h.1)
    from (inr y) ih =
        let hh : h.0 ≡ y.0 = c.heads (joined (turned q) e) h.1 y.1 in
        let b : (b : Tree) × (slice_get (arguments s) k ≡ Some b) = partner u s h.0 k a h.1 (y.1 ∙ ap Some (sym hh)) x in
        let v : (j : ℕ) × IsChild g i k j × (w : Tree) × Stands g j w × Equal E b.0 w = r.argument i k s b.0 p b.1 in
        let z : (m : ℕ) × (w : Tree) × Walks g ks v.0 m × Stands g m w × Equal E t w = ih v.0 v.2 v.3 (joined (equal-inside E c k q e h.1 y.1 x b.1) v.4) in
        (z.0, z.1, on k v.1 z.2, z.3, z.4)

pub either_nat : (a b : ℕ) → (a ≡ b) ⊎ (a ≢ b)
either_nat a b = test (a == b) refl
  where
    test : (t : Bool) → (a == b) ≡ t → (a ≡ b) ⊎ (a ≢ b)
    test true e = inl (eqb-true a b e)
    test false e = inr (λ d. eqb-false a b e d)

pub back-cyclic : (E : Equations) → IsConsistent E → (g : Graph) (block : ℕ → ℕ) → IsGraphOf E g → IsStable E g block → (i : ℕ) (t : Tree) → Stands g i t → ComesBack g block i → IsCyclic E t
back-cyclic E c g block r b i t p w =
    let z : (m : Tree) × (u : Tree) × LeadsTo E _ t m × Stands g w.to u × Equal E m u = walks-leads E g r _ i w.to t t p same w.walks in
    record { at = w.position; below = w.below; met = z.0; leads = z.2; again = Same-equal' E c z.4 (stable-same E c g block r b i w.to t z.1 p z.3 w.again) }

-- blocks that aren't different are one
pub fair-same : (E : Equations) (g : Graph) (block : ℕ → ℕ) → IsFair E g block → (i j : ℕ) (s t : Tree) → Stands g i s → Stands g j t → SameTree E s t → (block i ≡ block j) ⊎ (block i ≢ block j) → block i ≡ block j
fair-same E g block f i j s t p q m (inl e) = e
fair-same E g block f i j s t p q m (inr d) = absurd (f.differ i j s t p q d m)

pub cyclic-back : (E : Equations) → IsConsistent E → (g : Graph) (block : ℕ → ℕ) → IsGraphOf E g → IsFair E g block → (i : ℕ) (t : Tree) → Stands g i t → IsCyclic E t → ComesBack g block i
cyclic-back E c g block r f i t p y =
    let z : (m : ℕ) × (u : Tree) × Walks g _ i m × Stands g m u × Equal E y.met u = leads-walks E c g r i t p same y.leads in
    record {
      position = y.at;
      below = y.below;
      to = z.0;
      walks = z.2;
      again = fair-same E g block f i z.0 t z.1 p z.3 (Same-equal' E c (turned z.4) y.again) (either_nat (block i) (block z.0));
    }
