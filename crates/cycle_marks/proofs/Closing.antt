-- The last component is finished, and the search ends.
use Rattle.std.proofs.Common.{◌≡◌, ◌≢◌, ℕ, ◌+◌, ◌-◌, ◌<◌, ◌≤◌, List, [], ◌∷◌, ◌++◌, length, Some, None, refl, sym, ◌∙◌, ap, subst, inl, inr, arith, length-append, Bool, true, false}
use Rattle.std.specs.Prelude.{◌⊎◌, slice_get, get_or}
use Rattle.std.proofs.lemmas.Option.{slice_get_within, slice_get-get_or}
use Rattle.std.proofs.Math.ListN.{get_or-append}
use Rattle.std.proofs.Math.Seq.{get_or-append_seam}
use Rattle.akl_terms.proofs.Numbering.{slice_get-front}
use Rattle.cycle_marks.specs.declared.search.Base.{Base}
use Rattle.cycle_marks.specs.declared.search.Mark.{Mark}
use Rattle.cycle_marks.specs.declared.search.Mark.TheVariants.{New, Open, Done}
use Rattle.cycle_marks.specs.Rows.{IsEdge, Leads, by_edge}
use Rattle.cycle_marks.specs.Searching.{State, At, AreJoined, IsSource, IsMet, finished, waits, inside, is_looked, IsBelow, IsSearch, ComesBack, several, by_itself, alone, AreMarked, AreOlder}
use Rattle.cycle_marks.proofs.Places.{either_nat, either_less, at-further, at-either, at-one, find, none-there}
use Rattle.cycle_marks.proofs.Paths.{leads-on, lift, last-at, either-base, before-last, joined-last}

module _ (rows : List (List ℕ)) (s : State) (front : List Base) (last : Base) (f : s.path ≡ front ++ last ∷ []) (kept closed : List ℕ) (parts : s.nodes ≡ kept ++ closed) (size : length kept ≡ last.node) (marks : List Mark) (cyclic : Bool)
    (followed : length s.edges ≤ last.edge) (k : IsSearch rows s) (m : AreMarked closed (length s.cyclic) s.marks marks) (c : ComesBack rows s.nodes last.node cyclic) where
  abbrev number : ℕ
  number = length s.cyclic

  abbrev new : State
  new = record { marks = marks; nodes = kept; edges = s.edges; path = front; cyclic = s.cyclic ++ cyclic ∷ [] }

  up : (t : ℕ) (b : Base) → At front t b → At s.path t b
  up t b a = lift s.path front last f t b a

  at-last : At s.path (length front) last
  at-last = last-at s.path front last f

  either : (t : ℕ) (b : Base) → At s.path t b → (At front t b × (t < length front)) ⊎ (b ≡ last)
  either t b a = either-base s.path front last f t b a

  less-last : (t : ℕ) (b : Base) → At front t b → t < length front → b.node < last.node
  less-last t b a l = before-last s.path front last f rows None s refl k t b a l

  -- nodes that stay open, and those of the component
  was : (p x : ℕ) → At kept p x → At s.nodes p x
  was p x a = ap (λ (xs : List ℕ). slice_get xs p) parts ∙ slice_get-front kept closed p x a

  node-in : (p x : ℕ) → At s.nodes p x → (At kept p x × (p < last.node)) ⊎ ((last.node ≤ p) × At closed (p - last.node) x)
  node-in p x a = elim (at-either kept closed p x (sym (ap (λ (xs : List ℕ). slice_get xs p) parts) ∙ a)) [
    | inl h ↦ inl (h, let l : p < length kept = slice_get_within kept p x h in omega (arith, l, size))
    | inr h ↦ inr (let l : length kept ≤ p = h.0 in omega (arith, l, size), ap (λ (n : ℕ). slice_get closed (p - n)) (sym size) ∙ h.1)
  ]

  behind : (i x : ℕ) → At closed i x → At s.nodes (last.node + i) x
  behind i x a = ap (λ (xs : List ℕ). slice_get xs (last.node + i)) parts ∙ ap (λ (n : ℕ). slice_get (kept ++ closed) (n + i)) (sym size) ∙ at-further kept closed i ∙ a

  stays : (p x : ℕ) → At s.nodes p x → p < last.node → At kept p x
  stays p x a l = elim (node-in p x a) [ inl h ↦ h.0 | inr h ↦ (let g : last.node ≤ p = h.0 in absurd (omega (arith, g, l))) ]

  -- marks
  finishes : (p x : ℕ) → At s.nodes p x → last.node ≤ p → At marks x (Done number)
  finishes p x a l = elim (node-in p x a) [ inl h ↦ (let g : p < last.node = h.1 in absurd (omega (arith, g, l))) | inr h ↦ m.done (p - last.node) x h.1 ]

  keep-done : (x n : ℕ) → At s.marks x (Done n) → At marks x (Done n)
  keep-done x n a = m.others x (λ i b. let o : Some (Open (last.node + i)) ≡ Some (Done n) = sym (k.marked (last.node + i) x (behind i x b)) ∙ a in cc) ∙ a

  keep-open : (x p : ℕ) → At s.marks x (Open p) → p < last.node → At marks x (Open p)
  keep-open x p a l =
      m.others x (λ i b. let o : Some (Open (last.node + i)) ≡ Some (Open p) = sym (k.marked (last.node + i) x (behind i x b)) ∙ a in let e : last.node + i ≡ p = cc in omega (arith, e, l)) ∙ a

  abbrev WasIn : ℕ → Mark → Type 0
  WasIn x n = ((i : ℕ) × At closed i x × (Done number ≡ n)) ⊎ (((i : ℕ) → At closed i x → ⊥) × At s.marks x n)

  old : (x : ℕ) (n : Mark) → At marks x n → WasIn x n
  old x n a = elim (find closed x) [ inl h ↦ inl (h.0, h.1, at-one marks {i = x} {j = x} refl (m.done h.0 x h.1) a) | inr d ↦ inr (d, sym (m.others x d) ∙ a) ]

  opened : (p x : ℕ) → WasIn x (Open p) → At kept p x
  opened p x (inl h) = let o : Done number ≡ Open p = h.2 in absurd cc
  opened p x (inr h) = elim (node-in p x (k.opened p x h.1)) [ inl g ↦ g.0 | inr g ↦ absurd (h.0 (p - last.node) g.1) ]

  together : (i j x y : ℕ) → i < j → At kept i x → At kept j y → AreJoined front i j → Leads rows y x
  together i j x y l a b o = k.together i j x y l (was i x a) (was j y b) (λ t d e v w. joined t d (either t d e) v w)
    where
      joined : (t : ℕ) (d : Base) → (At front t d × (t < length front)) ⊎ (d ≡ last) → i < d.node → d.node ≤ j → ⊥
      joined t d (inl h) v w = o t d h.0 v w
      joined t d (inr e) v w = let g : d.node ≡ last.node = ap (λ (z : Base). z.node) e in let n : j < length kept = slice_get_within kept j y b in omega (arith, g, w, n, size)

  covered : (p x : ℕ) → At kept p x → (t : ℕ) × (b : Base) × At front t b × (b.node ≤ p)
  covered p x a =
      let z : (t : ℕ) × (b : Base) × At s.path t b × (b.node ≤ p) = k.covered p x (was p x a) in
      elim (either z.0 z.1 z.2) [
        | inl h ↦ (z.0, z.1, h.0, z.3)
        | inr e ↦ (let g : z.1.node ≡ last.node = ap (λ (y : Base). y.node) e in let n : p < length kept = slice_get_within kept p x a in let l : z.1.node ≤ p = z.3 in absurd (omega (arith, g, n, l, size)))
      ]

  source : (e u : ℕ) → At s.edges e u → IsSource rows kept front e u
  source e u a =
      let z : IsSource rows s.nodes s.path e u = k.source e u a in
      let l : z.place < last.node = z.before (length front) last at-last (let g : e < length s.edges = slice_get_within s.edges e u a in omega (arith, g, followed)) in
      record { place = z.place; node = z.node; at = stays z.place z.node z.at l; edge = z.edge; behind = λ t b q. z.behind t b (up t b q); before = λ t b q. z.before t b (up t b q) }

  met : {b : Base} {u : ℕ} → IsMet s.marks s.edges None b u → IsMet marks s.edges None b u
  met {u = u} (finished {n = n} a) = finished {n = n} (keep-done u n a)
  met (waits {e = e} l a) = waits {e = e} l a
  met {b = b} {u = u} (inside {p = p} a l) = elim (either_less p last.node) [ inl h ↦ inside {p = p} (keep-open u p a h) l | inr h ↦ finished {n = number} (finishes p u (k.opened p u a) h) ]
  met {u = u} (is_looked q) = let o : None ≡ Some u = q in absurd cc

  -- whether the component is a cycle
  its-flag : (n : ℕ) → number ≡ n → get_or (s.cyclic ++ cyclic ∷ []) n false ≡ cyclic
  its-flag n e = ap (λ (i : ℕ). get_or (s.cyclic ++ cyclic ∷ []) i false) (sym e) ∙ get_or-append_seam s.cyclic cyclic [] false

  other-flag : (x n : ℕ) → At s.marks x (Done n) → get_or (s.cyclic ++ cyclic ∷ []) n false ≡ get_or s.cyclic n false
  other-flag x n a = get_or-append s.cyclic (cyclic ∷ []) false n (k.numbered x n a)

  -- a component that is no cycle has one node, without an edge to itself
  no-cycle : (q p x u : ℕ) → At s.nodes q x → last.node ≤ q → At s.nodes p u → last.node ≤ p → IsEdge rows x u → cyclic ≡ false → ⊥
  no-cycle q p x u a l b g e z = from cyclic c z
    where
      from : (v : Bool) → ComesBack rows s.nodes last.node v → v ≡ false → ⊥
      from v (several h) o = let w : true ≡ false = o in cc
      from v (by_itself h i) o = let w : true ≡ false = o in cc
      from v (alone {x = y} h n d) o =
          let i : q < length s.nodes = slice_get_within s.nodes q x a in
          let j : p < length s.nodes = slice_get_within s.nodes p u b in
          let ex : x ≡ y = at-one s.nodes (let w : q ≡ last.node = omega (arith, i, n, l) in w) a h in
          let eu : u ≡ y = at-one s.nodes (let w : p ≡ last.node = omega (arith, j, n, g) in w) b h in
          d (subst (λ (w : ℕ). IsEdge rows y w) eu (subst (λ (w : ℕ). IsEdge rows w u) ex e))

  below-closed : (q x u n : ℕ) → At s.nodes q x → last.node ≤ q → number ≡ n → IsEdge rows x u → IsMet s.marks s.edges None last u → IsBelow marks (s.cyclic ++ cyclic ∷ []) n u
  below-closed q x u n a l e g (finished {n = i} b) = let z : i < length s.cyclic = k.numbered u i b in record { number = i; done = keep-done u i b; down = omega (arith, z, e); strict = λ o. omega (arith, z, e) }
  below-closed q x u n a l e g (waits {e = i} r b) = let z : i < length s.edges = slice_get_within s.edges i u b in absurd (omega (arith, z, r, followed))
  below-closed q x u n a l e g (inside {p = p} b r) = record {
    number = number;
    done = finishes p u (k.opened p u b) r;
    down = omega (arith, e);
    strict = λ o. absurd (no-cycle q p x u a l (k.opened p u b) r g (sym (its-flag n e) ∙ o));
  }
  below-closed q x u n a l e g (is_looked b) = let o : None ≡ Some u = b in absurd cc

  below : (x n u : ℕ) → WasIn x (Done n) → IsEdge rows x u → IsBelow marks (s.cyclic ++ cyclic ∷ []) n u
  below x n u (inl h) e =
      let at : At s.nodes (last.node + h.0) x = behind h.0 x h.1 in
      let l : last.node ≤ last.node + h.0 = omega arith in
      below-closed (last.node + h.0) x u n at l (let o : Done number ≡ Done n = h.2 in cc) e (k.met (length front) (last.node + h.0) x u last at-last l at e)
  below x n u (inr h) e =
      let z : IsBelow s.marks s.cyclic n u = k.below x n u h.1 e in
      record { number = z.number; done = keep-done u z.number z.done; down = z.down; strict = λ o. z.strict (sym (other-flag x n h.1) ∙ o) }

  -- two nodes of the component lead to each other
  around : (i j x y : ℕ) → i < j → last.node ≤ i → At s.nodes i x → At s.nodes j y → Leads rows x x × Leads rows y y
  around i j x y l g a b =
      let v : Leads rows x y = k.along i j x y l a b in
      let w : Leads rows y x = k.together i j x y l a b (joined-last s.path front last f rows None s refl k i j g) in (leads-on v w, leads-on w v)

  back-closed : (q x : ℕ) → At s.nodes q x → last.node ≤ q → (v : Bool) → ComesBack rows s.nodes last.node v → v ≡ true → (q ≡ last.node) ⊎ (q ≢ last.node) → (q < last.node + 1) ⊎ (last.node + 1 ≤ q) → Leads rows x x
  back-closed q x a l v (several h) o (inl e) d =
      let d0 : At s.nodes (last.node + 1) (get_or s.nodes (last.node + 1) 0) = slice_get-get_or s.nodes (last.node + 1) 0 h in
      (around q (last.node + 1) x (get_or s.nodes (last.node + 1) 0) (omega (arith, e)) l a d0).0
  back-closed q x a l v (by_itself {x = y} h i) o (inl e) d = let z : x ≡ y = at-one s.nodes e a h in subst (λ (w : ℕ). Leads rows w w) (sym z) (by_edge i)
  back-closed q x a l v z o (inr n) (inl d) = absurd (n (omega (arith, l, d)))
  back-closed q x a l v z o (inr n) (inr d) =
      let i : q < length s.nodes = slice_get_within s.nodes q x a in
      let b : At s.nodes last.node (get_or s.nodes last.node 0) = slice_get-get_or s.nodes last.node 0 (omega (arith, i, l)) in
      (around last.node q (get_or s.nodes last.node 0) x (omega (arith, d)) (omega arith) b a).1
  back-closed q x a l v (alone h n d) o e w = let z : false ≡ true = o in absurd cc

  back : (x n : ℕ) → WasIn x (Done n) → get_or (s.cyclic ++ cyclic ∷ []) n false ≡ true → Leads rows x x
  back x n (inl h) o =
      let e : number ≡ n = (let z : Done number ≡ Done n = h.2 in cc) in
      back-closed (last.node + h.0) x (behind h.0 x h.1) (omega arith) cyclic c (sym (its-flag n e) ∙ o) (either_nat (last.node + h.0) last.node) (either_less (last.node + h.0) (last.node + 1))
  back x n (inr h) o = k.back x n h.1 (sym (other-flag x n h.1) ∙ o)

  pub search-closed : IsSearch rows new
  search-closed = record {
    sizes = m.size ∙ k.sizes;
    along = λ i j x y l a b. k.along i j x y l (was i x a) (was j y b);
    together = together;
    marked = λ p x a. keep-open x p (k.marked p x (was p x a)) (let l : p < length kept = slice_get_within kept p x a in omega (arith, l, size));
    opened = λ p x a. opened p x (old x (Open p) a);
    rising = λ t u a b l x y. k.rising t u a b l (up t a x) (up u b y);
    waiting = λ t u a b l x y. k.waiting t u a b l (up t a x) (up u b y);
    begun = λ t b a. let l : b.node < last.node = less-last t b a (slice_get_within front t b a) in omega (arith, l, size);
    room = λ t b a. k.room t b (up t b a);
    covered = covered;
    source = source;
    met = λ t q x u b a l d e. met (k.met t q x u b (up t b a) l (was q x d) e);
    numbered = λ x n a. elim (old x (Done n) a) [
      | inl h ↦ (let e : number ≡ n = (let o : Done number ≡ Done n = h.2 in cc) in let l : length (s.cyclic ++ cyclic ∷ []) ≡ length s.cyclic + 1 = length-append s.cyclic (cyclic ∷ []) in omega (arith, e, l))
      | inr h ↦ (let e : n < length s.cyclic = k.numbered x n h.1 in let l : length (s.cyclic ++ cyclic ∷ []) ≡ length s.cyclic + 1 = length-append s.cyclic (cyclic ∷ []) in omega (arith, e, l))
    ];
    below = λ x n u a e. below x n u (old x (Done n) a) e;
    back = λ x n a o. back x n (old x (Done n) a) o;
  }

  pub older-closed : AreOlder s new
  older-closed x a = elim (old x New a) [ inl h ↦ (let o : Done number ≡ New = h.2 in absurd cc) | inr h ↦ h.1 ]

-- where no component is on the path, no node is open
pub none-open : (rows : List (List ℕ)) (s : State) → IsSearch rows s → s.path ≡ [] → s.nodes ≡ []
none-open rows s k e = from s.nodes refl
  where
    from : (xs : List ℕ) → s.nodes ≡ xs → s.nodes ≡ []
    from [] q = q
    from (x ∷ xs) q = let z : (t : ℕ) × (b : Base) × At s.path t b × (b.node ≤ 0) = k.covered 0 x (ap (λ (ys : List ℕ). slice_get ys 0) q) in absurd (none-there s.path z.0 z.1 e z.2)
