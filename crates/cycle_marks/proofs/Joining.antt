-- Components are joined, an edge is taken, and what it led to is settled.
use Rattle.std.proofs.Common.{◌≡◌, ◌≢◌, ℕ, ◌<◌, ◌≤◌, List, [], ◌∷◌, ◌++◌, length, Some, None, refl, sym, ◌∙◌, ap, subst, inl, inr, arith}
use Rattle.std.specs.Prelude.{◌⊎◌, slice_get, Option}
use Rattle.akl_terms.proofs.Numbering.{slice_get-front, slice_get-behind, slice_get-one_more}
use Rattle.cycle_marks.specs.declared.search.Base.{Base}
use Rattle.cycle_marks.specs.declared.search.Mark.TheVariants.{Open, Done}
use Rattle.cycle_marks.specs.Rows.{Leads, AreWithin}
use Rattle.cycle_marks.specs.Searching.{State, At, AreJoined, IsSource, IsMet, finished, waits, inside, is_looked, IsSearching, IsSearch, IsReached}
use Rattle.cycle_marks.proofs.Places.{either_nat, either_less, at-one}
use Rattle.cycle_marks.proofs.Paths.{leads-on, lift, last-at, either-base, before-last, waits-before, reached, with-met}

-- the last component begins behind an open node to which all open nodes lead: it is joined to the one before it
module _ (rows : List (List ℕ)) (s : State) (front : List Base) (last : Base) (f : s.path ≡ front ++ last ∷ []) (u p : ℕ) (k : IsSearching rows (Some u) s) (r : IsReached rows s.nodes u) (m : At s.marks u (Open p)) (behind : p < last.node) where
  abbrev new : State
  new = record s { path = front }

  up : (t : ℕ) (b : Base) → At front t b → At s.path t b
  up t b a = lift s.path front last f t b a

  either : (t : ℕ) (b : Base) → At s.path t b → (At front t b × (t < length front)) ⊎ (b ≡ last)
  either t b a = either-base s.path front last f t b a

  here : At s.nodes p u
  here = k.opened p u m

  -- the node at place p leads to those of its component and behind it
  from-place : (i x : ℕ) → At s.nodes i x → AreJoined s.path i p ⊎ (p ≤ i) → Leads rows u x ⊎ (u ≡ x)
  from-place i x a o = pick (either_nat i p) (either_less i p) o
    where
      pick : (i ≡ p) ⊎ (i ≢ p) → (i < p) ⊎ (p ≤ i) → AreJoined s.path i p ⊎ (p ≤ i) → Leads rows u x ⊎ (u ≡ x)
      pick (inl e) l o = inr (at-one s.nodes (sym e) here a)
      pick (inr d) (inl l) (inl j) = inl (k.together i p x u l a here j)
      pick (inr d) (inl l) (inr n) = absurd (omega (arith, l, n))
      pick (inr d) (inr l) o = inl (k.along p i u x (less p i l (λ e. d (sym e))) here a)
        where
          less : (a b : ℕ) → a ≤ b → (a ≡ b → ⊥) → a < b
          less a b w n = elim (either_less a b) [ inl h ↦ h | inr h ↦ absurd (n (omega (arith, w, h))) ]

  together : (i j x y : ℕ) → i < j → At s.nodes i x → At s.nodes j y → AreJoined front i j → (i < last.node) ⊎ (last.node ≤ i) → (j < last.node) ⊎ (last.node ≤ j) → Leads rows y x
  together i j x y l a b o (inl n) (inr q) =
      let w : Leads rows u x ⊎ (u ≡ x) = from-place i x a (from (either_less i p)) in
      elim w [ inl h ↦ leads-on (r j y b) h | inr e ↦ subst (λ (z : ℕ). Leads rows y z) e (r j y b) ]
    where
      joined : (t : ℕ) (c : Base) → (At front t c × (t < length front)) ⊎ (c ≡ last) → i < c.node → c.node ≤ p → ⊥
      joined t c (inl h) v z = o t c h.0 v (omega (arith, z, behind, q))
      joined t c (inr e) v z = let g : c.node ≡ last.node = ap (λ (d : Base). d.node) e in omega (arith, g, z, behind)

      from : (i < p) ⊎ (p ≤ i) → AreJoined s.path i p ⊎ (p ≤ i)
      from (inl g) = inl (λ t c d v z. joined t c (either t c d) v z)
      from (inr g) = inr g
  together i j x y l a b o (inr n) q = k.together i j x y l a b (λ t c d v z. joined t c (either t c d) v z)
    where
      joined : (t : ℕ) (c : Base) → (At front t c × (t < length front)) ⊎ (c ≡ last) → i < c.node → c.node ≤ j → ⊥
      joined t c (inl h) v z = o t c h.0 v z
      joined t c (inr e) v z = let g : c.node ≡ last.node = ap (λ (d : Base). d.node) e in omega (arith, g, v, n)
  together i j x y l a b o (inl n) (inl q) = k.together i j x y l a b (λ t c d v z. joined t c (either t c d) v z)
    where
      joined : (t : ℕ) (c : Base) → (At front t c × (t < length front)) ⊎ (c ≡ last) → i < c.node → c.node ≤ j → ⊥
      joined t c (inl h) v z = o t c h.0 v z
      joined t c (inr e) v z = let g : c.node ≡ last.node = ap (λ (d : Base). d.node) e in omega (arith, g, z, q)

  covered : (q x : ℕ) → At s.nodes q x → (t : ℕ) × (b : Base) × At front t b × (b.node ≤ q)
  covered q x a =
      let z : (t : ℕ) × (b : Base) × At s.path t b × (b.node ≤ q) = k.covered q x a in
      let y : (t : ℕ) × (b : Base) × At s.path t b × (b.node ≤ p) = k.covered p u here in
      pick z y (either z.0 z.1 z.2) (either y.0 y.1 y.2)
    where
      pick : (z : (t : ℕ) × (b : Base) × At s.path t b × (b.node ≤ q)) (y : (t : ℕ) × (b : Base) × At s.path t b × (b.node ≤ p)) → (At front z.0 z.1 × (z.0 < length front)) ⊎ (z.1 ≡ last) → (At front y.0 y.1 × (y.0 < length front)) ⊎ (y.1 ≡ last)
          → (t : ℕ) × (b : Base) × At front t b × (b.node ≤ q)
      pick z y (inl h) g = (z.0, z.1, h.0, z.3)
      pick z y (inr e) (inl h) = let v : z.1.node ≡ last.node = ap (λ (d : Base). d.node) e in let w : z.1.node ≤ q = z.3 in let l : y.1.node ≤ p = y.3 in (y.0, y.1, h.0, omega (arith, v, w, l, behind))
      pick z y (inr e) (inr g) = let v : y.1.node ≡ last.node = ap (λ (d : Base). d.node) g in let l : y.1.node ≤ p = y.3 in absurd (omega (arith, v, l, behind))

  pub search-joined : IsSearching rows (Some u) new
  search-joined = record {
    sizes = k.sizes;
    along = k.along;
    together = λ i j x y l a b o. together i j x y l a b o (either_less i last.node) (either_less j last.node);
    marked = k.marked;
    opened = k.opened;
    rising = λ t v a b l x y. k.rising t v a b l (up t a x) (up v b y);
    waiting = λ t v a b l x y. k.waiting t v a b l (up t a x) (up v b y);
    begun = λ t b a. k.begun t b (up t b a);
    room = λ t b a. k.room t b (up t b a);
    covered = covered;
    source = λ e v a. let z : IsSource rows s.nodes s.path e v = k.source e v a in record { place = z.place; node = z.node; at = z.at; edge = z.edge; behind = λ t b q. z.behind t b (up t b q); before = λ t b q. z.before t b (up t b q) };
    met = λ t q x v b a. k.met t q x v b (up t b a);
    numbered = k.numbered;
    below = k.below;
    back = k.back;
  }

-- what an edge led to is finished, or it is open and no component begins behind it
module _ (rows : List (List ℕ)) (s : State) (u : ℕ) (k : IsSearching rows (Some u) s) where
  pub search-done : (n : ℕ) → At s.marks u (Done n) → IsSearch rows s
  search-done n d = with-met k (λ t q x v b a l c e. from (k.met t q x v b a l c e))
    where
      from : {b : Base} {v : ℕ} → IsMet s.marks s.edges (Some u) b v → IsMet s.marks s.edges None b v
      from (finished m) = finished m
      from (waits l a) = waits l a
      from (inside m l) = inside m l
      from {v = v} (is_looked e) = let o : u ≡ v = (let z : Some u ≡ Some v = e in cc) in finished {n = n} (sym (ap (λ (y : ℕ). slice_get s.marks y) o) ∙ d)

  pub search-inside : (p : ℕ) → At s.marks u (Open p) → ((t : ℕ) (b : Base) → At s.path t b → b.node ≤ p) → IsSearch rows s
  search-inside p m w = with-met k (λ t q x v b a l c e. from (w t b a) (k.met t q x v b a l c e))
    where
      from : {b : Base} {v : ℕ} → b.node ≤ p → IsMet s.marks s.edges (Some u) b v → IsMet s.marks s.edges None b v
      from g (finished m) = finished m
      from g (waits l a) = waits l a
      from g (inside m l) = inside m l
      from {v = v} g (is_looked e) = let o : u ≡ v = (let z : Some u ≡ Some v = e in cc) in inside {p = p} (sym (ap (λ (y : ℕ). slice_get s.marks y) o) ∙ m) g

-- all components begin before the last one
pub all-before : (rows : List (List ℕ)) (s : State) (front : List Base) (last : Base) (f : s.path ≡ front ++ last ∷ []) → {o : Option ℕ} → IsSearching rows o s → (p : ℕ) → last.node ≤ p → (t : ℕ) (b : Base) → At s.path t b → b.node ≤ p
all-before rows s front last f {o = o} k p l t b a = from (either-base s.path front last f t b a)
  where
    from : (At front t b × (t < length front)) ⊎ (b ≡ last) → b.node ≤ p
    from (inl h) = let z : b.node < last.node = before-last s.path front last f rows o s refl k t b h.0 h.1 in omega (arith, z, l)
    from (inr e) = let z : b.node ≡ last.node = ap (λ (d : Base). d.node) e in omega (arith, z, l)

-- the last edge of the last component is taken
module _ (rows : List (List ℕ)) (s : State) (front : List Base) (last : Base) (f : s.path ≡ front ++ last ∷ []) (edges : List ℕ) (u : ℕ) (e : s.edges ≡ edges ++ u ∷ []) (room : last.edge ≤ length edges) (k : IsSearch rows s) where
  at-edge : (i v : ℕ) → At edges i v → At s.edges i v
  at-edge i v a = ap (λ (es : List ℕ). slice_get es i) e ∙ slice_get-front edges (u ∷ []) i v a

  taken : IsSource rows s.nodes s.path (length edges) u
  taken = k.source (length edges) u (ap (λ (es : List ℕ). slice_get es (length edges)) e ∙ slice_get-behind edges u)

  pub taken-reached : IsReached rows s.nodes u
  taken-reached = reached s.path front last f rows None s refl k taken.place taken.node u (taken.behind (length front) last (last-at s.path front last f) room) taken.at taken.edge

  pub taken-within : AreWithin rows → u < length rows
  taken-within w = w taken.node u taken.edge

  less-room : (t : ℕ) (b : Base) → (At front t b × (t < length front)) ⊎ (b ≡ last) → b.edge ≤ length edges
  less-room t b (inl h) = let z : b.edge ≤ last.edge = waits-before s.path front last f rows None s refl k t b h.0 h.1 in omega (arith, z, room)
  less-room t b (inr h) = let z : b.edge ≡ last.edge = ap (λ (d : Base). d.edge) h in omega (arith, z, room)

  met : {b : Base} {v : ℕ} → IsMet s.marks s.edges None b v → IsMet s.marks edges (Some u) b v
  met (finished m) = finished m
  met {v = v} (waits {e = i} l a) = elim (slice_get-one_more edges u i v (sym (ap (λ (es : List ℕ). slice_get es i) e) ∙ a)) [ inl h ↦ waits {e = i} l h | inr h ↦ is_looked (ap Some (sym h.1)) ]
  met (inside m l) = inside m l
  met {v = v} (is_looked q) = let o : None ≡ Some v = q in absurd cc

  pub search-taken : IsSearching rows (Some u) (record s { edges = edges })
  search-taken = record {
    sizes = k.sizes;
    along = k.along;
    together = k.together;
    marked = k.marked;
    opened = k.opened;
    rising = k.rising;
    waiting = k.waiting;
    begun = k.begun;
    room = λ t b a. less-room t b (either-base s.path front last f t b a);
    covered = k.covered;
    source = λ i v a. k.source i v (at-edge i v a);
    met = λ t q x v b a l c g. met (k.met t q x v b a l c g);
    numbered = k.numbered;
    below = k.below;
    back = k.back;
  }
