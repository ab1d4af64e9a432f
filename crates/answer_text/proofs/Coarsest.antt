-- Blocks of the coarsest partition are the trees under the equations.
use Rattle.std.proofs.Common.{◌≡◌, ◌≢◌, ℕ, List, [], ◌∷◌, ◌++◌, refl, sym, ◌∙◌, ap, inl, inr, Some}
use Rattle.std.specs.Prelude.{slice_get, ◌⊎◌}
use Rattle.akl_terms.specs.Tree.{Tree, Head, head_of, arguments}
use Rattle.akl_terms.specs.Equal.{Equations, Equal, same, turned, IsConsistent}
use Rattle.answer_text.specs.Printed.{IsFree}
use Rattle.answer_text.specs.Cyclic.{SameTree}
use Rattle.answer_text.specs.Graph.{Graph, Stands, IsChild, IsGraphOf, AgreeIn, one_class, one_head, IsStable, IsFair, Walks, at, on, ComesBack}
use Rattle.answer_text.specs.BuiltGraph.{at_node, Differ, by_top, by_child, IsCoarsest, Passes, one_step, and_on}
use Rattle.akl_terms.proofs.Arguments.{partner}
use Rattle.answer_text.proofs.SameTrees.{headed, Same-equal, Same-equal', Same-arguments, Same-down, Down, Same-free, free-same, Same-turned}

-- nodes have one number exactly where they are one unstructured class or have one head
pub record AreTops (E : Equations) (g : Graph) (tops : List ℕ) : Type 0 where
  pub one : (i j : ℕ) (s t : Tree) → Stands g i s → Stands g j t → at_node tops i ≡ at_node tops j → (IsFree E s × Equal E s t) ⊎ ((h : Head) × (head_of s ≡ Some h) × (head_of t ≡ Some h))
  pub other : (i j : ℕ) (s t : Tree) → Stands g i s → Stands g j t → at_node tops i ≢ at_node tops j
      → ((IsFree E s × Equal E s t) ⊎ ((h : Head) × (head_of s ≡ Some h) × (head_of t ≡ Some h))) → ⊥

-- nodes that differ are different trees
differ-other : (E : Equations) (g : Graph) (tops : List ℕ) → IsConsistent E → IsGraphOf E g → AreTops E g tops → {i j : ℕ} (s t : Tree) → Stands g i s → Stands g j t → Differ g tops i j → SameTree E s t → ⊥
differ-other E g tops c r a {i} {j} s t p q (by_top d) m = a.other i j s t p q d (begins (r.ends i s p) (r.ends j t q))
  where
    begins : IsFree E s ⊎ ((h : Head) × (head_of s ≡ Some h)) → IsFree E t ⊎ ((h : Head) × (head_of t ≡ Some h)) → (IsFree E s × Equal E s t) ⊎ ((h : Head) × (head_of s ≡ Some h) × (head_of t ≡ Some h))
    begins (inl f) y = inl (f, Same-free E c m f)
    begins (inr h) (inl f) = absurd ((free-same E c (Same-turned E c m) f).free s h.0 same h.1)
    begins (inr h) (inr y) =
        let d : Down E c s t s h.0 = Same-down E c m same h.1 in
        let e : y.0 ≡ h.0 = c.heads d.equal y.1 d.head in inr (h.0, h.1, y.1 ∙ ap Some e)
differ-other E g tops c r a {i} {j} s t p q (by_child {p = v} {q = w} k x y d) m =
    let l : (b : Tree) × (slice_get (arguments s) k ≡ Some b) × (u : Tree) × Stands g v u × Equal E b u = r.child i k v s p x in
    let n : (b : Tree) × (slice_get (arguments t) k ≡ Some b) × (u : Tree) × Stands g w u × Equal E b u = r.child j k w t q y in
    let hs : (h : Head) × (head_of s ≡ Some h) = headed s k l.0 l.1 in
    let ht : (h : Head) × (head_of t ≡ Some h) = headed t k n.0 n.1 in
    let z : SameTree E l.0 n.0 = Same-arguments E c {u = s} {v = t} k m same same hs.1 ht.1 l.1 n.1 in
    differ-other E g tops c r a l.2 n.2 l.3 n.3 d (Same-equal E c (turned l.4) (Same-equal' E c (turned n.4) z))

pub coarsest : (E : Equations) (g : Graph) (tops blocks : List ℕ) → IsConsistent E → IsGraphOf E g → AreTops E g tops → IsCoarsest g tops blocks
    → IsStable E g (at_node blocks) × IsFair E g (at_node blocks)
coarsest E g tops blocks c r a o = (
  record { agree = λ i j s t p q e. from i j s t p q e (a.one i j s t p q (o.top i j s t p q e)) },
  record { differ = λ i j s t p q d m. differ-other E g tops c r a s t p q (o.differ i j s t p q d) m },
)
  where
    from : (i j : ℕ) (s t : Tree) → Stands g i s → Stands g j t → at_node blocks i ≡ at_node blocks j → (IsFree E s × Equal E s t) ⊎ ((h : Head) × (head_of s ≡ Some h) × (head_of t ≡ Some h))
        → AgreeIn E g (at_node blocks) i j s t
    from i j s t p q e (inl z) = one_class z.0 z.1
    from i j s t p q e (inr z) = one_head z.1 z.2 (λ k v w x y. o.children i j k v w s t p q e x y)

-- a walk and one more step
walk-more : (g : Graph) {ks : List ℕ} {i j m : ℕ} (k : ℕ) → Walks g ks i j → IsChild g j k m → Walks g (ks ++ k ∷ []) i m
walk-more g k at x = on k x at
walk-more g k (on l y w) x = on l y (walk-more g k w x)

-- a walk to a block, by at least one position
record Arrives (g : Graph) (block : ℕ → ℕ) (i b : ℕ) : Type 0 where
  first : ℕ
  rest : List ℕ
  to : ℕ
  term : Tree
  walks : Walks g (first ∷ rest) i to
  stands : Stands g to term
  there : block to ≡ b

module _ (E : Equations) (g : Graph) (block : ℕ → ℕ) (c : IsConsistent E) (r : IsGraphOf E g) (b : IsStable E g block) where
  -- a node of the same block has the same child, up to its block
  mirrored : (i j k m : ℕ) (s t : Tree) → Stands g i s → Stands g j t → block i ≡ block j → IsChild g i k m → (n : ℕ) × (u : Tree) × IsChild g j k n × Stands g n u × (block m ≡ block n)
  mirrored i j k m s t p q e x = from (b.agree i j s t p q e)
    where
      a : (a : Tree) × (slice_get (arguments s) k ≡ Some a) × (u : Tree) × Stands g m u × Equal E a u
      a = r.child i k m s p x

      from : AgreeIn E g block i j s t → (n : ℕ) × (u : Tree) × IsChild g j k n × Stands g n u × (block m ≡ block n)
      from (one_class f z) = let h : (h : Head) × (head_of s ≡ Some h) = headed s k a.0 a.1 in absurd (f.free s h.0 same h.1)
      from (one_head {h = h} y z f) =
          let d : (d : Tree) × (slice_get (arguments t) k ≡ Some d) = partner s t h k a.0 y z a.1 in
          let v : (n : ℕ) × IsChild g j k n × (u : Tree) × Stands g n u × Equal E d.0 u = r.argument j k t d.0 q d.1 in
          (v.0, v.2, v.1, v.3, f k m v.0 x v.1)

  arrives : {d e : ℕ} → Passes g block d e → (i : ℕ) (t : Tree) → Stands g i t → block i ≡ d → Arrives g block i e
  arrives (one_step {i = v} {j = j} {t = s} k x y) i t p e =
      let z : (n : ℕ) × (u : Tree) × IsChild g i k n × Stands g n u × (block j ≡ block n) = mirrored v i k j s t x p (sym e) y in
      record { first = k; rest = []; to = z.0; term = z.1; walks = on k z.2 at; stands = z.3; there = sym z.4 }
  arrives (and_on {i = v} {j = j} {t = s} w k x y) i t p e =
      let a : Arrives g block i (block v) = arrives w i t p e in
      let z : (n : ℕ) × (u : Tree) × IsChild g a.to k n × Stands g n u × (block j ≡ block n) = mirrored v a.to k j s a.term x a.stands (sym a.there) y in
      record { first = a.first; rest = a.rest ++ k ∷ []; to = z.0; term = z.1; walks = walk-more g k a.walks z.2; stands = z.3; there = sym z.4 }

pub passes : (E : Equations) (g : Graph) (block : ℕ → ℕ) → IsConsistent E → IsGraphOf E g → IsStable E g block
    → (i : ℕ) (t : Tree) → Stands g i t → Passes g block (block i) (block i) → ComesBack g block i
passes E g block c r b i t p w = let a : Arrives g block i (block i) = arrives E g block c r b w i t p refl in
    record { position = a.first; below = a.rest; to = a.to; walks = a.walks; again = sym a.there }
