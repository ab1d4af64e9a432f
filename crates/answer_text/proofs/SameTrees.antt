-- The same tree, under consistent equations: an equivalence on the trees that are themselves, and it goes down.
use Rattle.std.proofs.Common.{◌≡◌, ℕ, zero, suc, List, ◌∷◌, length, refl, sym, ◌∙◌, ap, inl, inr, Some}
use Rattle.std.specs.Prelude.{slice_get}
use Rattle.akl_terms.specs.Tree.{Tree, variable, integer, port, symbol, Head, integer_head, port_head, symbol_head, head_of, arguments}
use Rattle.akl_terms.specs.Equal.{Equations, Equal, IsTold, same, turned, joined, inside, IsConsistent}
use Rattle.akl_terms.specs.Solved.{IsUnstructured, SameIn}
use Rattle.akl_terms.proofs.Arguments.{partner}
use Rattle.akl_terms.proofs.StandingLaws.{same_equal}
use Rattle.answer_text.specs.Printed.{IsFree}
use Rattle.answer_text.proofs.Determined.{one_head}
use Rattle.answer_text.specs.Cyclic.{SameTree, LeadsTo, stays, goes, IsCyclic}

-- a term with an argument has a head
pub headed : (t : Tree) (k : ℕ) (a : Tree) → slice_get (arguments t) k ≡ Some a → (h : Head) × (head_of t ≡ Some h)
headed (variable x) k a e = cc
headed (integer n) k a e = (integer_head n, refl)
headed (port p) k a e = (port_head p, refl)
headed (symbol f ts) k a e = (symbol_head f (length (arguments (symbol f ts))), refl)

module _ (E : Equations) (c : IsConsistent E) where
  -- equal terms of one head have equal arguments
  pub equal-inside : {s u v a b : Tree} {g h : Head} (k : ℕ) → Equal E s u → Equal E s v → head_of u ≡ Some g → head_of v ≡ Some h
      → slice_get (arguments u) k ≡ Some a → slice_get (arguments v) k ≡ Some b → Equal E a b
  equal-inside {g = g} {h = h} k p q x y i j = inside k (joined (turned p) q) x (y ∙ ap Some (sym (one_head E c _ _ _ _ _ p q x y))) i j

  pub unstructured-equal : {s t : Tree} → Equal E s t → IsUnstructured (IsTold E) s → IsUnstructured (IsTold E) t
  unstructured-equal e f = λ u h p i. f u h (joined e p) i

  pub In-turned : (n : ℕ) (s t : Tree) → SameIn (IsTold E) n s t → SameIn (IsTold E) n t s
  In-turned zero s t m = tt
  In-turned (suc n) s t (inl m) = inl (turned m.0, unstructured-equal m.0 m.1)
  In-turned (suc n) s t (inr (u, v, h, p, q, x, y, f)) = inr (v, u, h, q, p, y, x, λ k a b i j. In-turned n b a (f k b a j i))

  -- an equal term in place of the first
  pub In-equal : (n : ℕ) (s s' t : Tree) → Equal E s' s → SameIn (IsTold E) n s t → SameIn (IsTold E) n s' t
  In-equal zero s s' t e m = tt
  In-equal (suc n) s s' t e (inl m) = inl (joined e m.0, unstructured-equal (turned e) m.1)
  In-equal (suc n) s s' t e (inr (u, v, h, p, q, x, y, f)) = inr (u, v, h, joined e p, q, x, y, f)

  pub In-joined : (n : ℕ) (s t w : Tree) → SameIn (IsTold E) n s t → SameIn (IsTold E) n t w → SameIn (IsTold E) n s w
  In-joined zero s t w a b = tt
  In-joined (suc n) s t w (inl a) (inl b) = inl (joined a.0 b.0, a.1)
  In-joined (suc n) s t w (inl a) (inr (u, v, h, p, q, x, y, f)) = absurd (a.1 u h (joined a.0 p) x)
  In-joined (suc n) s t w (inr (u, v, h, p, q, x, y, f)) (inl b) = absurd (b.1 v h q y)
  In-joined (suc n) s t w (inr (u, v, h, p, q, x, y, f)) (inr (u', v', h', p', q', x', y', f')) =
      let hh : h ≡ h' = one_head E c _ _ _ _ _ q p' y x' in
      inr (
        u,
        v',
        h,
        p,
        q',
        x,
        y' ∙ ap Some (sym hh),
        λ k a b i j.
            let m : (d : Tree) × (slice_get (arguments v) k ≡ Some d) = partner u v h k a x y i in
            let m' : (d : Tree) × (slice_get (arguments u') k ≡ Some d) = partner u u' h k a x (x' ∙ ap Some (sym hh)) i in
            In-joined n a m.0 b (f k a m.0 i m.1) (In-equal n m'.0 m.0 b (equal-inside k q p' y x' m.1 m'.1) (f' k m'.0 b m'.1 j)),
      )

  pub Same-turned : {s t : Tree} → SameTree E s t → SameTree E t s
  Same-turned m n = In-turned n _ _ (m n)

  pub Same-joined : {s t u : Tree} → SameTree E s t → SameTree E t u → SameTree E s u
  Same-joined a b n = In-joined n _ _ _ (a n) (b n)

  pub Same-equal : {s s' t : Tree} → Equal E s' s → SameTree E s t → SameTree E s' t
  Same-equal e m n = In-equal n _ _ _ e (m n)

  pub Same-equal' : {s t t' : Tree} → Equal E t' t → SameTree E s t → SameTree E s t'
  Same-equal' e m = Same-turned (Same-equal e (Same-turned m))

  pub free-self : {s : Tree} → IsFree E s → SameTree E s s
  free-self f zero = tt
  free-self f (suc n) = inl (same, λ u h e i. f.free u h e i)

  -- an unstructured class is the same tree as its own terms alone
  pub Same-free : {s t : Tree} → SameTree E s t → IsFree E s → Equal E s t
  Same-free {s} {t} m f = same_equal s t m (λ u h p x. f.free u h p x)

  pub free-same : {s t : Tree} → SameTree E s t → IsFree E s → IsFree E t
  free-same m f = record { free = λ u h p x. f.free u h (joined (Same-free m f) p) x }

  -- a partner of a term that the first is equal to, and its arguments
  pub record Down (s t u : Tree) (h : Head) : Type 0 where
    pub other : Tree
    pub equal : Equal E t other
    pub head : head_of other ≡ Some h
    pub each : (k : ℕ) (a b : Tree) → slice_get (arguments u) k ≡ Some a → slice_get (arguments other) k ≡ Some b → SameTree E a b

  pub Same-down : {s t u : Tree} {h : Head} → SameTree E s t → Equal E s u → head_of u ≡ Some h → Down s t u h
  Same-down {s} {t} {u} {h} m e i = on (m 1)
    where
      deeper : (v : Tree) → Equal E t v → head_of v ≡ Some h → (n k : ℕ) (a b : Tree) → slice_get (arguments u) k ≡ Some a → slice_get (arguments v) k ≡ Some b
          → SameIn (IsTold E) (suc n) s t → SameIn (IsTold E) n a b
      deeper v q y n k a b ia ib (inl z) = absurd (z.1 u h e i)
      deeper v q y n k a b ia ib (inr (u', v', h', p', q', x', y', f)) =
          let hh : h ≡ h' = one_head E c _ _ _ _ _ e p' i x' in
          let ma : (d : Tree) × (slice_get (arguments u') k ≡ Some d) = partner u u' h k a i (x' ∙ ap Some (sym hh)) ia in
          let mb : (d : Tree) × (slice_get (arguments v') k ≡ Some d) = partner v v' h k b y (y' ∙ ap Some (sym hh)) ib in
          In-equal n ma.0 a b (equal-inside k e p' i x' ia ma.1)
          (In-turned n b ma.0 (In-equal n mb.0 b ma.0 (equal-inside k q q' y y' ib mb.1) (In-turned n ma.0 mb.0 (f k ma.0 mb.0 ma.1 mb.1))))

      on : SameIn (IsTold E) 1 s t → Down s t u h
      on (inl a) = absurd (a.1 u h e i)
      on (inr (u', v', h', p', q', x', y', f)) =
          let y : head_of v' ≡ Some h = y' ∙ ap Some (sym (one_head E c _ _ _ _ _ e p' i x')) in
          record { other = v'; equal = q'; head = y; each = λ k a b ia ib n. deeper v' q' y n k a b ia ib (m (suc n)) }

  -- the same trees agree in head
  pub Same-heads : {s t u v : Tree} {g h : Head} → SameTree E s t → Equal E s u → Equal E t v → head_of u ≡ Some g → head_of v ≡ Some h → g ≡ h
  Same-heads m p q x y = let d : Down _ _ _ _ = Same-down m p x in sym (one_head E c _ _ _ _ _ q d.equal y d.head)

  pub Same-arguments : {s t u v a b : Tree} {g h : Head} (k : ℕ) → SameTree E s t → Equal E s u → Equal E t v → head_of u ≡ Some g → head_of v ≡ Some h
      → slice_get (arguments u) k ≡ Some a → slice_get (arguments v) k ≡ Some b → SameTree E a b
  Same-arguments {u = u} {v = v} {a = a} {b = b} {g = g} {h = h} k m p q x y i j =
      let d : Down _ _ _ _ = Same-down m p x in
      let gh : g ≡ h = sym (one_head E c _ _ _ _ _ q d.equal y d.head) in
      let o : (z : Tree) × (slice_get (arguments d.other) k ≡ Some z) = partner v d.other g k b (y ∙ ap Some (sym gh)) d.head j in
      Same-equal' (equal-inside k q d.equal y d.head j o.1) (d.each k a o.0 i o.1)

  -- the same positions lead from the same tree to the same subtree
  pub Same-leads : {ks : List ℕ} {s s' t : Tree} → SameTree E s s' → LeadsTo E ks s t → (t' : Tree) × LeadsTo E ks s' t' × SameTree E t t'
  Same-leads {s' = s'} m stays = (s', stays, m)
  Same-leads m (goes {u = u} {a = a} k p i l) =
      let h : (h : Head) × (head_of u ≡ Some h) = headed u k a i in
      let d : Down _ _ _ _ = Same-down m p h.1 in
      let b : (b : Tree) × (slice_get (arguments d.other) k ≡ Some b) = partner u d.other h.0 k a h.1 d.head i in
      let r : (t' : Tree) × LeadsTo E _ b.0 t' × SameTree E _ t' = Same-leads (d.each k a b.0 i b.1) l in
      (r.0, goes k d.equal b.1 r.1, r.2)

  -- cyclic is a property of the tree
  pub cyclic-same : {s s' : Tree} → SameTree E s s' → IsCyclic E s → IsCyclic E s'
  cyclic-same m y =
      let r : (t' : Tree) × LeadsTo E _ _ t' × SameTree E _ t' = Same-leads m y.leads in
      record { at = y.at; below = y.below; met = r.0; leads = r.1; again = Same-joined (Same-turned m) (Same-joined y.again r.2) }

  pub leads-structured : {ks : List ℕ} {k : ℕ} {s t : Tree} → LeadsTo E (k ∷ ks) s t → IsFree E s → ⊥
  leads-structured (goes {u = u} {a = a} k p i l) f = let h : (h : Head) × (head_of u ≡ Some h) = headed u k a i in f.free u h.0 p h.1

  -- a cyclic tree is no unstructured class
  pub cyclic-structured : {s : Tree} → IsCyclic E s → IsFree E s → ⊥
  cyclic-structured y f = leads-structured y.leads f
