-- A new node is opened.
use Rattle.std.proofs.Common.{◌≡◌, ◌≢◌, ℕ, ◌+◌, ◌-◌, ◌<◌, ◌≤◌, List, [], ◌∷◌, length, Some, None, sym, ◌∙◌, ap, subst, inl, inr, arith, length-append}
use Rattle.std.specs.Prelude.{◌⊎◌, slice_get}
use Rattle.std.proofs.lemmas.Option.{slice_get_within}
use Rattle.std.proofs.lemmas.List.{length-set}
use Rattle.akl_terms.proofs.Numbering.{slice_get-front, slice_get-behind, slice_get-one_more}
use Rattle.cycle_marks.specs.declared.search.Base.{Base}
use Rattle.cycle_marks.specs.declared.search.Mark.{Mark}
use Rattle.cycle_marks.specs.declared.search.Mark.TheVariants.{New, Open, Done}
use Rattle.cycle_marks.specs.Rows.{IsEdge, Leads}
use Rattle.cycle_marks.specs.Searching.{State, At, AreJoined, IsSource, IsMet, finished, waits, inside, is_looked, IsBelow, IsSearching, IsSearch, IsReached, opened_at, AreOlder}
use Rattle.cycle_marks.proofs.Places.{either_nat, at-set, set-other, at-further, at-either, at-one}

module _ (rows : List (List ℕ)) (row : List ℕ) (w : ℕ) (s : State) (rw_is : slice_get rows w ≡ Some row) (k : IsSearching rows (Some w) s) (r : IsReached rows s.nodes w) (m : At s.marks w New) where
  abbrev new : State
  new = opened_at row w s

  abbrev base : Base
  base = record { node = length s.nodes; edge = length s.edges }

  self : At new.marks w (Open (length s.nodes))
  self = at-set s.marks w New (Open (length s.nodes)) m

  -- a mark that isn't that of a new node stays
  keep : (x : ℕ) (n : Mark) → At s.marks x n → New ≢ n → At new.marks x n
  keep x n a d = set-other s.marks w x (Open (length s.nodes)) (λ e. d (at-one s.marks e m a)) ∙ a

  keep-open : (x p : ℕ) → At s.marks x (Open p) → At new.marks x (Open p)
  keep-open x p a = keep x (Open p) a (λ e. cc)

  keep-done : (x n : ℕ) → At s.marks x (Done n) → At new.marks x (Done n)
  keep-done x n a = keep x (Done n) a (λ e. cc)

  -- a mark is that of the node that was opened, or was there
  old : (x : ℕ) (n : Mark) → At new.marks x n → ((w ≡ x) × (Open (length s.nodes) ≡ n)) ⊎ At s.marks x n
  old x n a = elim (either_nat w x) [ inl e ↦ inl (e, at-one new.marks e self a) | inr d ↦ inr (sym (set-other s.marks w x (Open (length s.nodes)) d) ∙ a) ]

  old-done : (x n : ℕ) → At new.marks x (Done n) → At s.marks x (Done n)
  old-done x n a = elim (old x (Done n) a) [ inl e ↦ (let o : Open (length s.nodes) ≡ Done n = e.1 in absurd cc) | inr b ↦ b ]

  abbrev IsIn : ℕ → ℕ → Type 0
  IsIn p x = (At s.nodes p x × (p < length s.nodes)) ⊎ ((p ≡ length s.nodes) × (x ≡ w))

  node-in : (p x : ℕ) → At new.nodes p x → IsIn p x
  node-in p x a = elim (slice_get-one_more s.nodes w p x a) [ inl h ↦ inl (h, slice_get_within s.nodes p x h) | inr h ↦ inr h ]

  abbrev IsBase : ℕ → Base → Type 0
  IsBase t b = (At s.path t b × (t < length s.path)) ⊎ ((t ≡ length s.path) × (b ≡ base))

  base-in : (t : ℕ) (b : Base) → At new.path t b → IsBase t b
  base-in t b a = elim (slice_get-one_more s.path base t b a) [ inl h ↦ inl (h, slice_get_within s.path t b h) | inr h ↦ inr h ]

  -- no component begins behind the new one, nor has more room
  base-begun : (t : ℕ) (b : Base) → IsBase t b → b.node ≤ length s.nodes
  base-begun t b (inl h) = let l : b.node < length s.nodes = k.begun t b h.0 in omega (arith, l)
  base-begun t b (inr h) = let e : b.node ≡ length s.nodes = ap (λ (c : Base). c.node) h.1 in omega (arith, e)

  base-room : (t : ℕ) (b : Base) → IsBase t b → b.edge ≤ length s.edges
  base-room t b (inl h) = k.room t b h.0
  base-room t b (inr h) = let e : b.edge ≡ length s.edges = ap (λ (c : Base). c.edge) h.1 in omega (arith, e)

  more-nodes : length new.nodes ≡ length s.nodes + 1
  more-nodes = length-append s.nodes (w ∷ [])

  more-edges : length new.edges ≡ length s.edges + length row
  more-edges = length-append s.edges row

  along : (i j x y : ℕ) → i < j → IsIn i x → IsIn j y → Leads rows x y
  along i j x y l (inl a) (inl b) = k.along i j x y l a.0 b.0
  along i j x y l (inl a) (inr b) = subst (λ (z : ℕ). Leads rows x z) (sym b.1) (r i x a.0)
  along i j x y l (inr a) (inl b) = let e : i ≡ length s.nodes = a.0 in let n : j < length s.nodes = b.1 in absurd (omega (arith, l, e, n))
  along i j x y l (inr a) (inr b) = let e : i ≡ length s.nodes = a.0 in let n : j ≡ length s.nodes = b.0 in absurd (omega (arith, l, e, n))

  together : (i j x y : ℕ) → i < j → IsIn i x → IsIn j y → AreJoined new.path i j → Leads rows y x
  together i j x y l (inl a) (inl b) o = k.together i j x y l a.0 b.0 (λ t c p. o t c (slice_get-front s.path (base ∷ []) t c p))
  together i j x y l (inr a) (inl b) o = let e : i ≡ length s.nodes = a.0 in let n : j < length s.nodes = b.1 in absurd (omega (arith, l, e, n))
  together i j x y l a (inr b) o =
      let e : j ≡ length s.nodes = b.0 in
      absurd (o (length s.path) base (slice_get-behind s.path base) (let z : i < length s.nodes = omega (arith, l, e) in z) (let z : length s.nodes ≤ j = omega (arith, e) in z))

  opened : (p x : ℕ) → ((w ≡ x) × (Open (length s.nodes) ≡ Open p)) ⊎ At s.marks x (Open p) → At new.nodes p x
  opened p x (inl h) =
      let e : length s.nodes ≡ p = (let o : Open (length s.nodes) ≡ Open p = h.1 in cc) in
      ap (λ (q : ℕ). slice_get new.nodes q) (sym e) ∙ slice_get-behind s.nodes w ∙ ap Some h.0
  opened p x (inr a) = slice_get-front s.nodes (w ∷ []) p x (k.opened p x a)

  marked : (p x : ℕ) → IsIn p x → At new.marks x (Open p)
  marked p x (inl a) = keep-open x p (k.marked p x a.0)
  marked p x (inr a) = ap (λ (y : ℕ). slice_get new.marks y) a.1 ∙ self ∙ ap (λ (q : ℕ). Some (Open q)) (sym a.0)

  rising : (t u : ℕ) (a b : Base) → t < u → IsBase t a → IsBase u b → a.node < b.node
  rising t u a b l (inl x) (inl y) = k.rising t u a b l x.0 y.0
  rising t u a b l (inl x) (inr y) = let e : b.node ≡ length s.nodes = ap (λ (c : Base). c.node) y.1 in let z : a.node < length s.nodes = k.begun t a x.0 in omega (arith, e, z)
  rising t u a b l (inr x) (inl y) = let e : t ≡ length s.path = x.0 in let z : u < length s.path = y.1 in absurd (omega (arith, l, e, z))
  rising t u a b l (inr x) (inr y) = let e : t ≡ length s.path = x.0 in let z : u ≡ length s.path = y.0 in absurd (omega (arith, l, e, z))

  waiting : (t u : ℕ) (a b : Base) → t < u → IsBase t a → IsBase u b → a.edge ≤ b.edge
  waiting t u a b l x (inr y) = let e : b.edge ≡ length s.edges = ap (λ (c : Base). c.edge) y.1 in let z : a.edge ≤ length s.edges = base-room t a x in omega (arith, e, z)
  waiting t u a b l (inl x) (inl y) = k.waiting t u a b l x.0 y.0
  waiting t u a b l (inr x) (inl y) = let e : t ≡ length s.path = x.0 in let z : u < length s.path = y.1 in absurd (omega (arith, l, e, z))

  covered : (p x : ℕ) → IsIn p x → (t : ℕ) × (b : Base) × At new.path t b × (b.node ≤ p)
  covered p x (inl a) = let z : (t : ℕ) × (b : Base) × At s.path t b × (b.node ≤ p) = k.covered p x a.0 in (z.0, z.1, slice_get-front s.path (base ∷ []) z.0 z.1 z.2, z.3)
  covered p x (inr a) = let e : p ≡ length s.nodes = a.0 in (length s.path, base, slice_get-behind s.path base, let z : length s.nodes ≤ p = omega (arith, e) in z)

  source : (e u : ℕ) → At s.edges e u ⊎ ((length s.edges ≤ e) × At row (e - length s.edges) u) → IsSource rows new.nodes new.path e u
  source e u (inl a) =
      let z : IsSource rows s.nodes s.path e u = k.source e u a in
      let l : e < length s.edges = slice_get_within s.edges e u a in
      record {
        place = z.place;
        node = z.node;
        at = slice_get-front s.nodes (w ∷ []) z.place z.node z.at;
        edge = z.edge;
        behind = λ t b p q. elim (base-in t b p) [ inl h ↦ z.behind t b h.0 q | inr h ↦ (let n : b.edge ≡ length s.edges = ap (λ (c : Base). c.edge) h.1 in absurd (omega (arith, n, q, l))) ];
        before = λ t b p q. elim (base-in t b p) [ inl h ↦ z.before t b h.0 q | inr h ↦ (let n : b.node ≡ length s.nodes = ap (λ (c : Base). c.node) h.1 in let o : z.place < length s.nodes = slice_get_within s.nodes z.place z.node z.at in omega (arith, n, o)) ];
      }
  source e u (inr a) = record {
    place = length s.nodes;
    node = w;
    at = slice_get-behind s.nodes w;
    edge = record { row = row; place = e - length s.edges; of = rw_is; to = a.1 };
    behind = λ t b p q. base-begun t b (base-in t b p);
    before = λ t b p q. let n : b.edge ≤ length s.edges = base-room t b (base-in t b p) in let o : length s.edges ≤ e = a.0 in absurd (omega (arith, n, o, q));
  }

  still : (t u : ℕ) (b : Base) → IsBase t b → IsMet s.marks s.edges (Some w) b u → IsMet new.marks new.edges None b u
  still t u b h (finished {n = n} a) = finished (keep-done u n a)
  still t u b h (waits {e = e} l a) = waits l (slice_get-front s.edges row e u a)
  still t u b h (inside {p = p} a l) = inside (keep-open u p a) l
  still t u b h (is_looked e) = let o : w ≡ u = (let z : Some w ≡ Some u = e in cc) in inside (sym (ap (λ (y : ℕ). slice_get new.marks y) o) ∙ self) (base-begun t b h)

  met : (t q x u : ℕ) (b : Base) → IsBase t b → b.node ≤ q → IsIn q x → IsEdge rows x u → IsMet new.marks new.edges None b u
  met t q x u b (inl h) l (inl a) e = still t u b (inl h) (k.met t q x u b h.0 l a.0 e)
  met t q x u b (inr h) l (inl a) e = let n : b.node ≡ length s.nodes = ap (λ (c : Base). c.node) h.1 in let o : q < length s.nodes = a.1 in absurd (omega (arith, n, l, o))
  met t q x u b h l (inr a) e =
      let same : e.row ≡ row = at-one rows a.1 e.of rw_is in
      let there : At new.edges (length s.edges + e.place) u = at-further s.edges row e.place ∙ ap (λ (js : List ℕ). slice_get js e.place) (sym same) ∙ e.to in
      let n : b.edge ≤ length s.edges = base-room t b h in
      waits {e = length s.edges + e.place} (omega (arith, n)) there

  pub search-opened : IsSearch rows new
  search-opened = record {
    sizes = length-set s.marks w (Open (length s.nodes)) ∙ k.sizes;
    along = λ i j x y l a b. along i j x y l (node-in i x a) (node-in j y b);
    together = λ i j x y l a b o. together i j x y l (node-in i x a) (node-in j y b) o;
    marked = λ p x a. marked p x (node-in p x a);
    opened = λ p x a. opened p x (old x (Open p) a);
    rising = λ t u a b l x y. rising t u a b l (base-in t a x) (base-in u b y);
    waiting = λ t u a b l x y. waiting t u a b l (base-in t a x) (base-in u b y);
    begun = λ t b a. let l : b.node ≤ length s.nodes = base-begun t b (base-in t b a) in let n : length new.nodes ≡ length s.nodes + 1 = more-nodes in omega (arith, l, n);
    room = λ t b a. let l : b.edge ≤ length s.edges = base-room t b (base-in t b a) in let n : length new.edges ≡ length s.edges + length row = more-edges in omega (arith, l, n);
    covered = λ p x a. covered p x (node-in p x a);
    source = λ e u a. source e u (at-either s.edges row e u a);
    met = λ t q x u b a l c e. met t q x u b (base-in t b a) l (node-in q x c) e;
    numbered = λ x n a. k.numbered x n (old-done x n a);
    below = λ x n u a e. let z : IsBelow s.marks s.cyclic n u = k.below x n u (old-done x n a) e in record { number = z.number; done = keep-done u z.number z.done; down = z.down; strict = z.strict };
    back = λ x n a c. k.back x n (old-done x n a) c;
  }

  pub older-opened : AreOlder s new
  older-opened x a = elim (old x New a) [ inl e ↦ (let o : Open (length s.nodes) ≡ New = e.1 in absurd cc) | inr b ↦ b ]
