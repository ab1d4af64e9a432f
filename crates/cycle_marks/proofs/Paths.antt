-- Ways through a graph, and the last component of a path.
use Rattle.std.proofs.Common.{◌≡◌, ℕ, ◌<◌, ◌≤◌, List, [], ◌∷◌, ◌++◌, length, Some, None, sym, ◌∙◌, ap, subst, inl, inr, arith}
use Rattle.std.specs.Prelude.{◌⊎◌, slice_get, Option}
use Rattle.std.proofs.lemmas.Option.{slice_get_within}
use Rattle.akl_terms.proofs.Numbering.{slice_get-front, slice_get-behind, slice_get-one_more}
use Rattle.cycle_marks.specs.declared.search.Base.{Base}
use Rattle.cycle_marks.specs.Rows.{IsEdge, Leads, by_edge, onward}
use Rattle.cycle_marks.specs.Searching.{State, At, AreJoined, IsMet, finished, waits, inside, is_looked, IsSearching, IsSearch, IsReached}
use Rattle.cycle_marks.proofs.Places.{either_nat, either_less, at-one}

pub leads-on : {rows : List (List ℕ)} {i j k : ℕ} → Leads rows i j → Leads rows j k → Leads rows i k
leads-on w (by_edge e) = onward w e
leads-on w (onward v e) = onward (leads-on w v) e

-- the components of a path whose last one is known
module _ (path front : List Base) (last : Base) (e : path ≡ front ++ last ∷ []) where
  pub lift : (t : ℕ) (b : Base) → At front t b → At path t b
  lift t b a = ap (λ (ps : List Base). slice_get ps t) e ∙ slice_get-front front (last ∷ []) t b a

  pub last-at : At path (length front) last
  last-at = ap (λ (ps : List Base). slice_get ps (length front)) e ∙ slice_get-behind front last

  pub either-base : (t : ℕ) (b : Base) → At path t b → (At front t b × (t < length front)) ⊎ (b ≡ last)
  either-base t b a = elim (slice_get-one_more front last t b (sym (ap (λ (ps : List Base). slice_get ps t) e) ∙ a)) [ inl h ↦ inl (h, slice_get_within front t b h) | inr h ↦ inr h.1 ]

  -- it begins behind all others
  module _ (rows : List (List ℕ)) (looked : Option ℕ) (s : State) (same : s.path ≡ path) (k : IsSearching rows looked s) where
    at-s : (t : ℕ) (b : Base) → At path t b → At s.path t b
    at-s t b a = ap (λ (ps : List Base). slice_get ps t) same ∙ a

    pub before-last : (t : ℕ) (b : Base) → At front t b → t < length front → b.node < last.node
    before-last t b a l = k.rising t (length front) b last l (at-s t b (lift t b a)) (at-s (length front) last last-at)

    pub waits-before : (t : ℕ) (b : Base) → At front t b → t < length front → b.edge ≤ last.edge
    waits-before t b a l = k.waiting t (length front) b last l (at-s t b (lift t b a)) (at-s (length front) last last-at)

    -- nothing begins behind its first node
    pub joined-last : (i j : ℕ) → last.node ≤ i → AreJoined s.path i j
    joined-last i j l t b a m n = from (either-base t b (sym (ap (λ (ps : List Base). slice_get ps t) same) ∙ a))
      where
        from : (At front t b × (t < length front)) ⊎ (b ≡ last) → ⊥
        from (inl h) = let z : b.node < last.node = before-last t b h.0 h.1 in omega (arith, l, m, z)
        from (inr h) = let z : b.node ≡ last.node = ap (λ (c : Base). c.node) h in omega (arith, l, m, z)

    -- a node to which an edge of the last component leads is reached by all open nodes
    pub reached : (q x u : ℕ) → last.node ≤ q → At s.nodes q x → IsEdge rows x u → IsReached rows s.nodes u
    reached q x u l a edge i y b = from (either_nat i q) (either_less i q)
      where
        from : (i ≡ q) ⊎ (i ≡ q → ⊥) → (i < q) ⊎ (q ≤ i) → Leads rows y u
        from (inl o) m = by_edge (subst (λ (z : ℕ). IsEdge rows z u) (sym (at-one s.nodes o b a)) edge)
        from (inr d) (inl m) = onward (k.along i q y x m b a) edge
        from (inr d) (inr m) = onward (k.together q i x y (less q i m (λ o. d (sym o))) a b (joined-last q i l)) edge
          where
            less : (p r : ℕ) → p ≤ r → (p ≡ r → ⊥) → p < r
            less p r w n = elim (either_less p r) [ inl h ↦ h | inr h ↦ absurd (n (omega (arith, w, h))) ]

-- a search goes by what its edges met
pub with-met : {rows : List (List ℕ)} {looked other : Option ℕ} {s : State} → IsSearching rows looked s
    → ((t q x u : ℕ) (b : Base) → At s.path t b → b.node ≤ q → At s.nodes q x → IsEdge rows x u → IsMet s.marks s.edges other b u) → IsSearching rows other s
with-met k m = record {
  sizes = k.sizes;
  along = k.along;
  together = k.together;
  marked = k.marked;
  opened = k.opened;
  rising = k.rising;
  waiting = k.waiting;
  begun = k.begun;
  room = k.room;
  covered = k.covered;
  source = k.source;
  met = m;
  numbered = k.numbered;
  below = k.below;
  back = k.back;
}

-- a search in which a node may be looked at
pub looked-more : {rows : List (List ℕ)} {s : State} (looked : Option ℕ) → IsSearch rows s → IsSearching rows looked s
looked-more {rows = rows} {s = s} looked k = with-met k (λ t q x u b a l c d. from (k.met t q x u b a l c d))
  where
    from : {b : Base} {u : ℕ} → IsMet s.marks s.edges None b u → IsMet s.marks s.edges looked b u
    from (finished m) = finished m
    from (waits l a) = waits l a
    from (inside m l) = inside m l
    from {u = u} (is_looked e) = let o : None ≡ Some u = e in absurd cc
