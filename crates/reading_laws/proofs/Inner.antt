-- What binds no variable of some further out binds none further in, where they are closed.
use Rattle.std.proofs.Common.{◌≡◌, ℕ, ◌++◌, refl, sym, ◌∙◌, ap, subst, ◌⊎◌, inl, inr, Some, None}
use Rattle.std.specs.Prelude.{slice_get}
use Rattle.akl_terms.specs.declared.name.Var.{Var}
use Rattle.akl_terms.specs.Tree.{Tree, variable, integer, port, symbol, Head, integer_head, port_head, head_of, arguments}
use Rattle.akl_terms.specs.Equal.{Equations, IsTold, Equal, told, same, turned, joined, inside, Follows, IsConsistent, IsStructured}
use Rattle.akl_terms.proofs.EqualLaws.{Equal-follows, IsConsistent-follows, Follows-trans, IsTold-right, IsTold-either}
use Rattle.reading_laws.specs.Closed.{IsClosed, by_term, by_itself, AreClosed, Spares}
use Rattle.constraint_laws.specs.Growth.{IsOver, TellsOver}
use Rattle.constraint_laws.specs.Bound.{IsNewlyBound}
use Rattle.akl_terms.proofs.Arguments.{partner}
use Rattle.constraint_laws.proofs.Closure.{head_is}
use Rattle.constraint_laws.proofs.Decided.{equal_or, structured_or}
use Rattle.constraint_laws.proofs.Grown.{over_down, Headed, Headed-follows}
use Rattle.constraint_laws.proofs.Beside.{left_follows}

-- what is unstructured and isn't bound stays as it is
module _ (R : Var → Type 0) (E G : Equations) (s : Spares R E G) where
  pub was_structured : (x : Var) → R x → IsStructured G x → IsStructured E x
  was_structured x r w = elim (structured_or E x) [ inl v ↦ v | inr n ↦ absurd (s.unbound x r (record { unstructured = n; told = inl w })) ]

  pub was_equal : (x y : Var) → R x → (IsStructured E x → ⊥) → Equal G (variable x) (variable y) → Equal E (variable x) (variable y)
  was_equal x y r n e = elim (equal_or E (variable x) (variable y)) [ inl f ↦ f | inr d ↦ absurd (s.unbound x r (record { unstructured = n; told = inr (y, e, d) })) ]

  pub stays_closed : AreClosed R E → AreClosed R G
  stays_closed a = record { each = λ x r. on x r (a.each x r) }
    where
      on : (x : Var) → R x → IsClosed R E x → IsClosed R G x
      on x r (by_term e h o) = by_term (Equal-follows s.grows e) h o
      on x r (by_itself n) = by_itself (λ w. n (was_structured x r w))

pub together : (R : Var → Type 0) (E F G : Equations) → Spares R E F → Spares R F G → Spares R E G
together R E F G s t = record {
  grows = Follows-trans s.grows t.grows;
  consistent = t.consistent;
  unbound = λ x r b. on x r b.unstructured b.told;
}
  where
    on : (x : Var) → R x → (IsStructured E x → ⊥) → (IsStructured G x ⊎ ((y : Var) × Equal G (variable x) (variable y) × (Equal E (variable x) (variable y) → ⊥))) → ⊥
    on x r n (inl w) = n (was_structured R E F s x r (was_structured R F G t x r w))
    on x r n (inr (y, e, d)) = d (was_equal R E F s x y r n (was_equal R F G t x y r (λ w. n (was_structured R E F s x r w)) e))

-- E is further out, and grows to G; with what stands further in, which is over R, they are A and B
pub record Within (R : Var → Type 0) (E G A B : Equations) : Type 0 where
  pub spares : Spares R E G
  pub closed : AreClosed R E
  pub to_inner : Follows E A
  pub inner_grows : Follows A B
  pub grown_inner : Follows G B
  pub parts : (s t : Tree) → IsTold B s t → IsTold G s t ⊎ (IsTold A s t × IsOver R s × IsOver R t)
  pub consistent : IsConsistent A

-- equal by steps among terms over R, by what has grown or by what stands further in
data Mixed (R : Var → Type 0) (G A : Equations) : Tree → Tree → Type 0 where
  by_grown : {p q : Tree} → IsOver R p → IsOver R q → Equal G p q → Mixed R G A p q
  by_inner : {p q : Tree} → Equal A p q → Mixed R G A p q
  along : {p q r : Tree} → Mixed R G A p q → Mixed R G A q r → Mixed R G A p r

Mixed-turned : {R : Var → Type 0} {G A : Equations} {p q : Tree} → Mixed R G A p q → Mixed R G A q p
Mixed-turned (by_grown o u e) = by_grown u o (turned e)
Mixed-turned (by_inner e) = by_inner (turned e)
Mixed-turned (along m n) = along (Mixed-turned n) (Mixed-turned m)

-- equal further in, or both equal to terms of one head
abbrev Levels : (Var → Type 0) → Equations → Equations → Tree → Tree → Type 0
Levels R G A p q = Equal A p q ⊎ ((u v : Tree) × (h : Head) × Equal A p u × Equal A q v × (head_of u ≡ Some h) × (head_of v ≡ Some h)
    × ((k : ℕ) (a b : Tree) → slice_get (arguments u) k ≡ Some a → slice_get (arguments v) k ≡ Some b → Mixed R G A a b))

-- equal by what has grown, or over two terms over R
abbrev Splits : (Var → Type 0) → Equations → Equations → Tree → Tree → Type 0
Splits R G A s t = Equal G s t ⊎ ((p q : Tree) × IsOver R p × IsOver R q × Equal G s p × Mixed R G A p q × Equal G q t)

-- the term of a head that stands for a term over R
abbrev pub Stem : (Var → Type 0) → Equations → Tree → Type 0
Stem R E p = (u : Tree) × (h : Head) × Equal E p u × (head_of u ≡ Some h) × IsOver R u

module _ (R : Var → Type 0) (E G A B : Equations) (g : Within R E G A B) where
  pub stem : (p : Tree) → IsOver R p → Headed E p → Stem R E p
  stem (variable x) o w = on (g.closed.each x o)
    where
      on : IsClosed R E x → Stem R E (variable x)
      on (by_term {t = t} {h = h} e i r) = (t, h, e, i, r)
      on (by_itself n) = absurd (n w)
  stem (integer x) o w = (integer x, integer_head x, same, refl, tt)
  stem (port x) o w = (port x, port_head x, same, refl, tt)
  stem (symbol f ts) o w = on (head_is (symbol f ts))
    where
      on : (((h : Head) × (head_of (symbol f ts) ≡ Some h)) ⊎ (head_of (symbol f ts) ≡ None)) → Stem R E (symbol f ts)
      on (inl h) = (symbol f ts, h.0, same, h.1, o)
      on (inr n) = cc

  -- a term has a head further out, or is a variable that hasn't
  pub headed_or : (F : Equations) (p : Tree) → Headed F p ⊎ ((x : Var) × (p ≡ variable x) × (IsStructured F x → ⊥))
  headed_or F (variable x) = elim (structured_or F x) [ inl w ↦ inl w | inr n ↦ inr (x, refl, n) ]
  headed_or F (integer x) = inl (integer x, integer_head x, same, refl)
  headed_or F (port x) = inl (port x, port_head x, same, refl)
  headed_or F (symbol f ts) = on (head_is (symbol f ts))
    where
      on : (((h : Head) × (head_of (symbol f ts) ≡ Some h)) ⊎ (head_of (symbol f ts) ≡ None)) → Headed F (symbol f ts) ⊎ ((x : Var) × (symbol f ts ≡ variable x) × (IsStructured F x → ⊥))
      on (inl h) = inl (symbol f ts, h.0, same, h.1)
      on (inr n) = cc

  -- a term over R that has grown a head had it
  pub shown : (p : Tree) → IsOver R p → Headed G p → Headed E p
  shown p o w = on (headed_or E p)
    where
      on : Headed E p ⊎ ((x : Var) × (p ≡ variable x) × (IsStructured E x → ⊥)) → Headed E p
      on (inl v) = v
      on (inr (x, r, n)) = absurd (n (was_structured R E G g.spares x (subst (IsOver R) r o) (subst (Headed G) r w)))

  -- terms over R without a head that have grown equal were equal
  were_equal : (p q : Tree) → IsOver R p → IsOver R q → Equal G p q → (Headed E p → ⊥) → Equal E p q
  were_equal p q o u e n = on (headed_or E p) (headed_or E q)
    where
      on : Headed E p ⊎ ((x : Var) × (p ≡ variable x) × (IsStructured E x → ⊥)) → Headed E q ⊎ ((x : Var) × (q ≡ variable x) × (IsStructured E x → ⊥)) → Equal E p q
      on (inl w) d = absurd (n w)
      on (inr a) (inl w) = absurd (n (shown p o (w.0, w.1, joined e (Equal-follows g.spares.grows w.2), w.3)))
      on (inr (x, r, nx)) (inr (y, s, ny)) = rw (r, s) (was_equal R E G g.spares x y (subst (IsOver R) r o) nx (subst (λ (z : Tree). Equal G z (variable y)) r (subst (λ (z : Tree). Equal G p z) s e)))

  grown_levels : (p q : Tree) → IsOver R p → IsOver R q → Equal G p q → Levels R G A p q
  grown_levels p q o u e = on (headed_or E p)
    where
      both : Stem R E p → Stem R E q → Levels R G A p q
      both w v =
          let m : Equal G w.0 v.0 = joined (turned (Equal-follows g.spares.grows w.2)) (joined e (Equal-follows g.spares.grows v.2)) in
          let h : v.1 ≡ w.1 = sym (g.spares.consistent.heads m w.3 v.3) in
          inr (
            w.0,
            v.0,
            w.1,
            Equal-follows g.to_inner w.2,
            Equal-follows g.to_inner v.2,
            w.3,
            v.3 ∙ ap Some h,
            λ k a b x y. by_grown (over_down R w.0 k a w.4 x) (over_down R v.0 k b v.4 y) (inside k m w.3 (v.3 ∙ ap Some h) x y),
          )

      on : Headed E p ⊎ ((x : Var) × (p ≡ variable x) × (IsStructured E x → ⊥)) → Levels R G A p q
      on (inl w) = both (stem p o w) (stem q u (shown q u (w.0, w.1, joined (turned e) (Equal-follows g.spares.grows w.2), w.3)))
      on (inr (x, r, n)) = inl (Equal-follows g.to_inner (were_equal p q o u e (λ w. n (subst (Headed E) r w))))

  levels_joined : (p q r : Tree) → Levels R G A p q → Levels R G A q r → Levels R G A p r
  levels_joined p q r (inl e) (inl f) = inl (joined e f)
  levels_joined p q r (inl e) (inr v) = inr (v.0, v.1, v.2, joined e v.3, v.4, v.5, v.6, v.7)
  levels_joined p q r (inr w) (inl f) = inr (w.0, w.1, w.2, w.3, joined (turned f) w.4, w.5, w.6, w.7)
  levels_joined p q r (inr w) (inr v) = inr (w.0, v.1, w.2, w.3, v.4, w.5, v.6 ∙ ap Some (sym heads), args)
    where
      middle : Equal A w.1 v.0
      middle = joined (turned w.4) v.3

      heads : w.2 ≡ v.2
      heads = g.consistent.heads middle w.6 v.5

      args : (k : ℕ) (a b : Tree) → slice_get (arguments w.0) k ≡ Some a → slice_get (arguments v.1) k ≡ Some b → Mixed R G A a b
      args k a b x y =
          let m : (c : Tree) × (slice_get (arguments w.1) k ≡ Some c) = partner w.0 w.1 w.2 k a w.5 w.6 x in
          let n : (d : Tree) × (slice_get (arguments v.0) k ≡ Some d) = partner w.1 v.0 w.2 k m.0 w.6 (v.5 ∙ ap Some (sym heads)) m.1 in
          along (w.7 k a m.0 x m.1) (along (by_inner (inside k middle w.6 (v.5 ∙ ap Some (sym heads)) m.1 n.1)) (v.7 k n.0 b n.1 y))

  levels : {p q : Tree} → Mixed R G A p q → Levels R G A p q
  levels (by_grown {p = p} {q = q} o u e) = grown_levels p q o u e
  levels (by_inner e) = inl e
  levels (along {p = p} {q = q} {r = r} m n) = levels_joined p q r (levels m) (levels n)

  splits_joined : (s t u : Tree) → Splits R G A s t → Splits R G A t u → Splits R G A s u
  splits_joined s t u (inl e) (inl f) = inl (joined e f)
  splits_joined s t u (inl e) (inr (p, q, o, i, x, m, y)) = inr (p, q, o, i, joined e x, m, y)
  splits_joined s t u (inr (p, q, o, i, x, m, y)) (inl f) = inr (p, q, o, i, x, m, joined y f)
  splits_joined s t u (inr (p, q, o, i, x, m, y)) (inr (p', q', o', i', x', m', y')) = inr (p, q', o, i', x, along m (along (by_grown i o' (joined y x')) m'), y')

  -- both ends of a split have their heads from terms over R
  ends : (s t : Tree) (h k : Head) (p q : Tree) → IsOver R p → IsOver R q → Equal G s p → Equal G q t → head_of s ≡ Some h → head_of t ≡ Some k
      → (u v : Tree) × Equal E p u × Equal E q v × (head_of u ≡ Some h) × (head_of v ≡ Some k) × IsOver R u × IsOver R v
  ends s t h k p q o i e f x y =
      let w : Stem R E p = stem p o (shown p o (s, h, turned e, x)) in
      let v : Stem R E q = stem q i (shown q i (t, k, f, y)) in (
        w.0,
        v.0,
        w.2,
        v.2,
        w.3 ∙ ap Some (sym (g.spares.consistent.heads (joined e (Equal-follows g.spares.grows w.2)) x w.3)),
        v.3 ∙ ap Some (g.spares.consistent.heads (joined (turned (Equal-follows g.spares.grows v.2)) f) v.3 y),
        w.4,
        v.4,
      )

  level_heads : (u v : Tree) (h k : Head) → Mixed R G A u v → head_of u ≡ Some h → head_of v ≡ Some k → h ≡ k
  level_heads u v h k m x y = on (levels m)
    where
      on : Levels R G A u v → h ≡ k
      on (inl e) = g.consistent.heads e x y
      on (inr w) = g.consistent.heads w.3 x w.5 ∙ sym (g.consistent.heads w.4 y w.6)

  level_arguments : (u v : Tree) (h : Head) → Mixed R G A u v → head_of u ≡ Some h → head_of v ≡ Some h
      → (k : ℕ) (a b : Tree) → slice_get (arguments u) k ≡ Some a → slice_get (arguments v) k ≡ Some b → Mixed R G A a b
  level_arguments u v h m x y k a b i j = on (levels m)
    where
      on : Levels R G A u v → Mixed R G A a b
      on (inl e) = by_inner (inside k e x y i j)
      on (inr w) =
          let r : w.2 ≡ h = sym (g.consistent.heads w.3 x w.5) in
          let hu : head_of w.0 ≡ Some h = w.5 ∙ ap Some r in
          let hv : head_of w.1 ≡ Some h = w.6 ∙ ap Some r in
          let c : (c : Tree) × (slice_get (arguments w.0) k ≡ Some c) = partner u w.0 h k a x hu i in
          let d : (d : Tree) × (slice_get (arguments w.1) k ≡ Some d) = partner v w.1 h k b y hv j in
          along (by_inner (inside k w.3 x hu i c.1)) (along (w.7 k c.0 d.0 c.1 d.1) (by_inner (inside k (turned w.4) hv y d.1 j)))

  around : (p q u v : Tree) → Mixed R G A p q → Equal E p u → Equal E q v → Mixed R G A u v
  around p q u v m e f = along (by_inner (turned (Equal-follows g.to_inner e))) (along m (by_inner (Equal-follows g.to_inner f)))

  splits_inside : (s t a b : Tree) (h : Head) (k : ℕ) → Splits R G A s t → head_of s ≡ Some h → head_of t ≡ Some h
      → slice_get (arguments s) k ≡ Some a → slice_get (arguments t) k ≡ Some b → Splits R G A a b
  splits_inside s t a b h k (inl e) x y i j = inl (inside k e x y i j)
  splits_inside s t a b h k (inr (p, q, o, r, e, m, f)) x y i j =
      let w : (u v : Tree) × Equal E p u × Equal E q v × (head_of u ≡ Some h) × (head_of v ≡ Some h) × IsOver R u × IsOver R v = ends s t h h p q o r e f x y in
      let su : Equal G s w.0 = joined e (Equal-follows g.spares.grows w.2) in
      let vt : Equal G w.1 t = joined (turned (Equal-follows g.spares.grows w.3)) f in
      let c : (c : Tree) × (slice_get (arguments w.0) k ≡ Some c) = partner s w.0 h k a x w.4 i in
      let d : (d : Tree) × (slice_get (arguments w.1) k ≡ Some d) = partner t w.1 h k b y w.5 j in
      inr (
        c.0,
        d.0,
        over_down R w.0 k c.0 w.6 c.1,
        over_down R w.1 k d.0 w.7 d.1,
        inside k su x w.4 i c.1,
        level_arguments w.0 w.1 h (around p q w.0 w.1 m w.2 w.3) w.4 w.5 k c.0 d.0 c.1 d.1,
        inside k vt w.5 y d.1 j,
      )

  -- what is equal in the whole is split
  splits : {s t : Tree} → Equal B s t → Splits R G A s t
  splits (told {s = s} {t = t} m) = elim (g.parts s t m) [ inl n ↦ inl (told n) | inr n ↦ inr (s, t, n.1, n.2, same, by_inner (told n.0), same) ]
  splits same = inl same
  splits (turned e) = elim (splits e) [ inl f ↦ inl (turned f) | inr (p, q, o, i, x, m, y) ↦ inr (q, p, i, o, turned y, Mixed-turned m, turned x) ]
  splits (joined {s = s} {t = t} {u = u} e f) = splits_joined s t u (splits e) (splits f)
  splits (inside {s = s} {t = t} {a = a} {b = b} {h = h} k e x y i j) = splits_inside s t a b h k (splits e) x y i j

  pub within_consistent : IsConsistent B
  within_consistent = record { heads = λ {s} {t} {g} {h} e x y. on s t g h (splits e) x y }
    where
      on : (s t : Tree) (h k : Head) → Splits R G A s t → head_of s ≡ Some h → head_of t ≡ Some k → h ≡ k
      on s t h k (inl e) x y = g.spares.consistent.heads e x y
      on s t h k (inr (p, q, o, r, e, m, f)) x y =
          let w : (u v : Tree) × Equal E p u × Equal E q v × (head_of u ≡ Some h) × (head_of v ≡ Some k) × IsOver R u × IsOver R v = ends s t h k p q o r e f x y in
          level_heads w.0 w.1 h k (around p q w.0 w.1 m w.2 w.3) w.4 w.5

  -- a term with a head in the whole had it before the equations further in, or is equal to a term over R that has one there
  pub headed_splits : (s : Tree) → Headed B s → Headed G s ⊎ ((p : Tree) × IsOver R p × Equal G s p × Headed A p)
  headed_splits s w = on (splits w.2)
    where
      on : Splits R G A s w.0 → Headed G s ⊎ ((p : Tree) × IsOver R p × Equal G s p × Headed A p)
      on (inl e) = inl (w.0, w.1, e, w.3)
      on (inr (p, q, o, r, e, m, f)) =
          let v : Headed E q = shown q r (w.0, w.1, f, w.3) in
          let u : Headed A p = elim (levels m) [ inl d ↦ (v.0, v.1, joined d (Equal-follows g.to_inner v.2), v.3) | inr d ↦ (d.0, d.2, d.3, d.5) ] in
          inr (p, o, e, u)

  -- a term over R that has a head in the whole has it further in without what has grown
  pub was_headed : (p : Tree) → IsOver R p → Headed B p → Headed A p
  was_headed p o w = on (headed_splits p w)
    where
      on : Headed G p ⊎ ((q : Tree) × IsOver R q × Equal G p q × Headed A q) → Headed A p
      on (inl v) = Headed-follows g.to_inner (shown p o v)
      on (inr (q, i, e, v)) = at (grown_levels p q o i e)
        where
          at : Levels R G A p q → Headed A p
          at (inl d) = (v.0, v.1, joined d v.2, v.3)
          at (inr d) = (d.0, d.2, d.3, d.5)

  -- two variables, the first without a head in the whole, that the whole makes equal
  pub tied_splits : (x y : Var) → (IsStructured B x → ⊥) → Equal B (variable x) (variable y) → Equal G (variable x) (variable y)
      ⊎ ((p q : Var) × R p × R q × Equal G (variable x) (variable p) × Equal A (variable p) (variable q) × Equal G (variable q) (variable y))
  tied_splits x y n e = on (splits e)
    where
      on : Splits R G A (variable x) (variable y) → Equal G (variable x) (variable y)
          ⊎ ((p q : Var) × R p × R q × Equal G (variable x) (variable p) × Equal A (variable p) (variable q) × Equal G (variable q) (variable y))
      on (inl f) = inl f
      on (inr (p, q, o, i, a, m, b)) = at (levels m) (headed_or E p) (headed_or E q)
        where
          low : Headed A p → ⊥
          low w = n (w.0, w.1, joined (Equal-follows g.grown_inner a) (Equal-follows g.inner_grows w.2), w.3)

          at : Levels R G A p q → Headed E p ⊎ ((z : Var) × (p ≡ variable z) × (IsStructured E z → ⊥)) → Headed E q ⊎ ((z : Var) × (q ≡ variable z) × (IsStructured E z → ⊥))
              → Equal G (variable x) (variable y) ⊎ ((p q : Var) × R p × R q × Equal G (variable x) (variable p) × Equal A (variable p) (variable q) × Equal G (variable q) (variable y))
          at (inr d) u v = absurd (low (d.0, d.2, d.3, d.5))
          at (inl d) (inl u) v = absurd (low (Headed-follows g.to_inner u))
          at (inl d) (inr u) (inl v) = absurd (low (v.0, v.1, joined d (Equal-follows g.to_inner v.2), v.3))
          at (inl d) (inr (z, r, nz)) (inr (w, s, nw)) = inr (
            z,
            w,
            subst (IsOver R) r o,
            subst (IsOver R) s i,
            subst (Equal G (variable x)) r a,
            subst (λ (t : Tree). Equal A t (variable w)) r (subst (Equal A p) s d),
            subst (λ (t : Tree). Equal G t (variable y)) s b,
          )

  pub within_unbound : (x : Var) → R x → IsNewlyBound A B x → ⊥
  within_unbound x r b = on b.told
    where
      no : IsStructured E x → ⊥
      no w = b.unstructured (Headed-follows g.to_inner w)

      nb : IsStructured B x → ⊥
      nb w = b.unstructured (was_headed (variable x) r w)

      on : (IsStructured B x ⊎ ((y : Var) × Equal B (variable x) (variable y) × (Equal A (variable x) (variable y) → ⊥))) → ⊥
      on (inl w) = nb w
      on (inr (y, e, d)) = at (tied_splits x y nb e)
        where
          at : Equal G (variable x) (variable y) ⊎ ((p q : Var) × R p × R q × Equal G (variable x) (variable p) × Equal A (variable p) (variable q) × Equal G (variable q) (variable y)) → ⊥
          at (inl f) = d (Equal-follows g.to_inner (was_equal R E G g.spares x y r no f))
          at (inr (p, q, rp, rq, f, m, h)) =
              let xp : Equal A (variable x) (variable p) = Equal-follows g.to_inner (was_equal R E G g.spares x p r no f) in
              let nq : IsStructured E q → ⊥ = λ w. b.unstructured (w.0, w.1, joined xp (joined m (Equal-follows g.to_inner w.2)), w.3) in
              d (joined xp (joined m (Equal-follows g.to_inner (was_equal R E G g.spares q y rq nq h))))

  pub within_spares : Spares R A B
  within_spares = record { grows = g.inner_grows; consistent = within_consistent; unbound = within_unbound }

-- what stands further in follows what is further out
pub inner_within : (R : Var → Type 0) (E G C : Equations) → Spares R E G → AreClosed R E → TellsOver R C → IsConsistent (E ++ C) → Within R E G (E ++ C) (G ++ C)
inner_within R E G C sp a o c = record {
  spares = sp;
  closed = a;
  to_inner = left_follows E C;
  inner_grows = record { each = λ {s} {t} m. elim (IsTold-either E C s t m) [ inl x ↦ Equal-follows (left_follows G C) (sp.grows.each x) | inr y ↦ told (IsTold-right G C s t y) ] };
  grown_inner = left_follows G C;
  parts = λ p q m. elim (IsTold-either G C p q m) [ inl x ↦ inl x | inr y ↦ let w : IsOver R p × IsOver R q = o.each p q y in inr (IsTold-right E C p q y, w.0, w.1) ];
  consistent = c;
}

-- equations over R bind only variables of R
module _ (R : Var → Type 0) (E C : Equations) (a : AreClosed R E) (o : TellsOver R C) (c : IsConsistent (E ++ C)) where
  itself : Spares R E E
  itself = record {
    grows = record { each = told };
    consistent = IsConsistent-follows (left_follows E C) c;
    unbound = λ x r b. elim b.told [ inl w ↦ b.unstructured w | inr w ↦ w.2 w.1 ];
  }

  within : Within R E E (E ++ C) (E ++ C)
  within = inner_within R E E C itself a o c

  -- a variable that is bound was equal to one of R
  pub bound_by : (x : Var) → IsNewlyBound E (E ++ C) x → (p : Var) × R p × Equal E (variable x) (variable p)
  bound_by x b = on b.told
    where
      to : (p : Tree) → IsOver R p → Equal E (variable x) p → (p : Var) × R p × Equal E (variable x) (variable p)
      to p o e = at (headed_or R E E (E ++ C) (E ++ C) within E p)
        where
          at : Headed E p ⊎ ((z : Var) × (p ≡ variable z) × (IsStructured E z → ⊥)) → (p : Var) × R p × Equal E (variable x) (variable p)
          at (inl w) = absurd (b.unstructured (w.0, w.1, joined e w.2, w.3))
          at (inr (z, r, n)) = (z, subst (IsOver R) r o, subst (Equal E (variable x)) r e)

      headed : IsStructured (E ++ C) x → (p : Var) × R p × Equal E (variable x) (variable p)
      headed w = elim (headed_splits R E E (E ++ C) (E ++ C) within (variable x) w) [ inl v ↦ absurd (b.unstructured v) | inr (p, o, e, v) ↦ to p o e ]

      on : (IsStructured (E ++ C) x ⊎ ((y : Var) × Equal (E ++ C) (variable x) (variable y) × (Equal E (variable x) (variable y) → ⊥))) → (p : Var) × R p × Equal E (variable x) (variable p)
      on (inl w) = headed w
      on (inr (y, e, d)) = elim (structured_or (E ++ C) x) [
        | inl w ↦ headed w
        | inr n ↦ elim (tied_splits R E E (E ++ C) (E ++ C) within x y n e) [ inl f ↦ absurd (d f) | inr (p, q, rp, rq, f, m, h) ↦ (p, rp, f) ]
      ]
