-- The steps of the search as the code makes them.
use Rattle.std.proofs.Common.{◌≡◌, ℕ, zero, suc, ◌+◌, ◌-◌, ◌^◌, ◌<◌, ◌≤◌, List, [], ◌∷◌, ◌++◌, length, Some, refl, sym, ◌∙◌, ap, subst, inl, inr, arith, length-append, Bool, false, take, drop}
use Rattle.std.specs.Prelude.{◌⊎◌, slice_get, slice_set, get_or, Option}
use Rattle.std.proofs.lemmas.Option.{slice_get_within, slice_get-get_or}
use Rattle.std.proofs.lemmas.List.{take-append-drop, length-take-le, length-drop}
use Rattle.std.proofs.Math.Seq.{take-append_seam, take-length}
use Rattle.akl_terms.proofs.Numbering.{slice_get-behind}
use Rattle.cycle_marks.specs.declared.search.Base.{Base}
use Rattle.cycle_marks.specs.declared.search.Mark.{Mark}
use Rattle.cycle_marks.specs.declared.search.Mark.TheVariants.{New, Open, Done}
use Rattle.cycle_marks.specs.Rows.{IsEdge, AreRanked}
use Rattle.cycle_marks.specs.Components.{Marks, rank_in, is_cyclic_in, rank_of, is_cyclic}
use Rattle.cycle_marks.specs.Searching.{State, At, IsBelow, IsSearching, IsSearch, IsReached, started, new_marks, opened_at, IsLast, ComesBack, AreMarked, weight, count_new, left, AreOlder, GoesOn}
use Rattle.cycle_marks.proofs.Places.{find, at-set, at-one, at-further, none-there}
use Rattle.cycle_marks.proofs.Paths.{looked-more}
use Rattle.cycle_marks.proofs.Marking.{all-new, length-new_marks}
use Rattle.cycle_marks.proofs.Opening.{search-opened, older-opened}
use Rattle.cycle_marks.proofs.Joining.{search-joined, search-inside}
use Rattle.cycle_marks.proofs.Closing.{search-closed, older-closed}

-- what is left of a path without its last component
pub front-of : (path front rest : List Base) (last : Base) → path ≡ front ++ last ∷ [] → rest ≡ take (length path - 1) path → rest ≡ front
front-of path front rest last e r =
    let l : length path ≡ length front + 1 = ap length e ∙ length-append front (last ∷ []) in
    let n : length path - 1 ≡ length front = omega (arith, l) in
    r ∙ ap (λ (k : ℕ). take k path) n ∙ ap (take (length front)) e ∙ take-append_seam front (last ∷ [])

-- an open node is a node
pub nodes-within : (rows : List (List ℕ)) (o : Option ℕ) (s : State) → IsSearching rows o s → (i x : ℕ) → At s.nodes i x → x < length rows
nodes-within rows o s k i x a = let l : x < length s.marks = slice_get_within s.marks x (Open i) (k.marked i x a) in let e : length s.marks ≡ length rows = k.sizes in omega (arith, l, e)

-- ---- a new node
count-opened : (marks : List Mark) (w p : ℕ) → At marks w New → count_new marks ≡ count_new (slice_set marks w (Open p)) + 1
count-opened [] w p a = absurd cc
count-opened (m ∷ ms) zero p a = let e : m ≡ New = (let o : Some m ≡ Some New = a in cc) in let v : weight m ≡ 1 = ap weight e in omega (arith, v)
count-opened (m ∷ ms) (suc w) p a = let e : count_new ms ≡ count_new (slice_set ms w (Open p)) + 1 = count-opened ms w p a in omega (arith, e)

pub opened-left : (row : List ℕ) (w : ℕ) (s : State) → At s.marks w New → length (opened_at row w s).edges + length (opened_at row w s).path < 2 ^ 65 → left (opened_at row w s) < left s
opened-left row w s m a =
    let n : count_new s.marks ≡ count_new (slice_set s.marks w (Open (length s.nodes))) + 1 = count-opened s.marks w (length s.nodes) m in
    omega (arith, n, a)

-- an edge leads to it
pub opened-goes : (rows : List (List ℕ)) (row : List ℕ) (w : ℕ) (old new : State) → slice_get rows w ≡ Some row → IsSearching rows (Some w) old → IsReached rows old.nodes w → At old.marks w New → new ≡ opened_at row w old
    → length new.edges + length new.path < 2 ^ 65 → GoesOn rows old new
opened-goes rows row w old new r k z m e f = subst (λ (s : State). GoesOn rows old s) (sym e) (record {
  search = search-opened rows row w old r k z m;
  older = older-opened rows row w old r k z m;
  left = (let g : length (opened_at row w old).edges + length (opened_at row w old).path < 2 ^ 65 = subst (λ (s : State). length s.edges + length s.path < 2 ^ 65) e f in let l : left (opened_at row w old) < left old = opened-left row w old m g in omega (arith, l));
})

-- the first node of a search from it
pub begun : (rows : List (List ℕ)) (row : List ℕ) (w : ℕ) (old new : State) → slice_get rows w ≡ Some row → IsSearch rows old → old.nodes ≡ [] → At old.marks w New → new ≡ opened_at row w old → IsSearch rows new × AreOlder old new
begun rows row w old new r k e m o =
    let z : IsSearching rows (Some w) old = looked-more (Some w) k in
    let y : IsReached rows old.nodes w = (λ i x a. absurd (none-there old.nodes i x e a)) in
    subst (λ (s : State). IsSearch rows s × AreOlder old s) (sym o) (search-opened rows row w old r z y m, older-opened rows row w old r z y m)

pub opened-met : (row : List ℕ) (w : ℕ) (s new : State) → At s.marks w New → new ≡ opened_at row w s → At new.marks w New → ⊥
opened-met row w s new m q b = let a : At (opened_at row w s).marks w New = subst (λ (z : State). At z.marks w New) q b in let o : Open (length s.nodes) ≡ New = at-one (opened_at row w s).marks {i = w} {j = w} refl (at-set s.marks w New (Open (length s.nodes)) m) a in absurd cc

-- ---- components joined
pub record JoinsOn (rows : List (List ℕ)) (target : ℕ) (old new : State) : Type 0 where
  pub search : IsSearching rows (Some target) new
  pub marks_same : new.marks ≡ old.marks
  pub nodes_same : new.nodes ≡ old.nodes
  pub edges_same : new.edges ≡ old.edges
  pub shorter : length new.path ≤ length old.path

pub join-step : (rows : List (List ℕ)) (target place : ℕ) (old s : State) (base : Base) (path : List Base) → JoinsOn rows target old s → IsReached rows old.nodes target → At old.marks target (Open place) → IsLast s.path base → place < base.node
    → path ≡ take (length s.path - 1) s.path → JoinsOn rows target old (record s { path = path })
join-step rows target place old s base path j r m l n e =
    let same : path ≡ l.0 = front-of s.path l.0 path base l.1 e in
    let size : length s.path ≡ length l.0 + 1 = ap length l.1 ∙ length-append l.0 (base ∷ []) in
    let less : length l.0 ≤ length old.path = (let z : length s.path ≤ length old.path = j.shorter in omega (arith, z, size)) in
    subst (λ (ps : List Base). JoinsOn rows target old (record s { path = ps })) (sym same) (record {
      search = search-joined rows s l.0 base l.1 target place j.search (subst (λ (xs : List ℕ). IsReached rows xs target) (sym j.nodes_same) r) (ap (λ (ms : List Mark). slice_get ms target) j.marks_same ∙ m) n;
      marks_same = j.marks_same;
      nodes_same = j.nodes_same;
      edges_same = j.edges_same;
      shorter = less;
    })

pub joined-goes : (rows : List (List ℕ)) (target place : ℕ) (old s : State) → JoinsOn rows target old s → At old.marks target (Open place) → ((t : ℕ) (b : Base) → At s.path t b → b.node ≤ place) → GoesOn rows old s
joined-goes rows target place old s j m w = record {
  search = search-inside rows s target j.search place (ap (λ (ms : List Mark). slice_get ms target) j.marks_same ∙ m) w;
  older = λ x a. sym (ap (λ (ms : List Mark). slice_get ms x) j.marks_same) ∙ a;
  left = (let l : length s.path ≤ length old.path = j.shorter in let a : count_new s.marks ≡ count_new old.marks = ap (count_new) j.marks_same in let b : length s.edges ≡ length old.edges = ap length j.edges_same in omega (arith, l, a, b));
}

-- ---- a component finished
sum-le : (xs ys : List Mark) → length ys ≡ length xs → ((i : ℕ) (a b : Mark) → At xs i a → At ys i b → weight b ≤ weight a) → count_new ys ≤ count_new xs
sum-le [] [] l h = omega arith
sum-le [] (y ∷ ys) l h = absurd (omega (arith, l))
sum-le (x ∷ xs) [] l h = omega arith
sum-le (x ∷ xs) (y ∷ ys) l h =
    let a : count_new ys ≤ count_new xs = sum-le xs ys (omega (arith, l)) (λ i a b p q. h (suc i) a b p q) in
    let b : weight y ≤ weight x = h 0 x y refl refl in
    omega (arith, a, b)

marked-weight : (nodes : List ℕ) (number : ℕ) (old new : List Mark) → AreMarked nodes number old new → count_new new ≤ count_new old
marked-weight nodes number old new m = sum-le old new m.size (λ i a b p q. from i a b p q (find nodes i))
  where
    from : (i : ℕ) (a b : Mark) → At old i a → At new i b → ((k : ℕ) × At nodes k i) ⊎ ((k : ℕ) → At nodes k i → ⊥) → weight b ≤ weight a
    from i a b p q (inl h) = let e : Done number ≡ b = at-one new {i = i} {j = i} refl (m.done h.0 i h.1) q in let w : weight b ≡ 0 = sym (ap weight e) in omega (arith, w)
    from i a b p q (inr d) = let e : b ≡ a = at-one old {i = i} {j = i} refl (sym (m.others i d) ∙ q) p in let w : weight b ≡ weight a = ap weight e in omega (arith, w)

module _ (rows : List (List ℕ)) (s : State) (base : Base) (l : IsLast s.path base) (k : IsSearch rows s) where
  pub last-within : base.node < length s.nodes
  last-within = k.begun (length l.0) base (ap (λ (ps : List Base). slice_get ps (length l.0)) l.1 ∙ slice_get-behind l.0 base)

  base-within : base.node ≤ length s.nodes
  base-within = let a : base.node < length s.nodes = last-within in omega (arith, a)

  closed-part : (nodes : List ℕ) → take (length nodes - base.node) (drop base.node nodes) ≡ drop base.node nodes
  closed-part nodes = let e : length (drop base.node nodes) ≡ length nodes - base.node = length-drop base.node nodes in ap (λ (n : ℕ). take n (drop base.node nodes)) (sym e) ∙ take-length (drop base.node nodes)

  -- its nodes have marks
  pub part-within : (i d : ℕ) → i < length (take (length s.nodes - base.node) (drop base.node s.nodes)) → get_or (take (length s.nodes - base.node) (drop base.node s.nodes)) i d < length s.marks
  part-within i d h =
      let part : List ℕ = take (length s.nodes - base.node) (drop base.node s.nodes) in
      let a : At part i (get_or part i d) = slice_get-get_or part i d h in
      let b : At (drop base.node s.nodes) i (get_or part i d) = sym (ap (λ (xs : List ℕ). slice_get xs i) (closed-part s.nodes)) ∙ a in
      let place : ℕ = length (take base.node s.nodes) + i in
      let at : At s.nodes place (get_or part i d) = ap (λ (xs : List ℕ). slice_get xs place) (sym (take-append-drop base.node s.nodes)) ∙ at-further (take base.node s.nodes) (drop base.node s.nodes) i ∙ b in
      slice_get_within s.marks (get_or part i d) (Open place) (k.marked place (get_or part i d) at)

  pub finish-step : (marks : List Mark) (nodes : List ℕ) (path : List Base) (flags : List Bool) (flag : Bool) (number : ℕ) → length s.edges ≤ base.edge → ComesBack rows s.nodes base.node flag → number ≡ length s.cyclic
      → AreMarked (take (length s.nodes - base.node) (drop base.node s.nodes)) number s.marks marks → nodes ≡ take base.node s.nodes → path ≡ take (length s.path - 1) s.path → flags ≡ s.cyclic ++ flag ∷ []
      → GoesOn rows s (record { marks = marks; nodes = nodes; edges = s.edges; path = path; cyclic = flags })
      × (left (record { marks = marks; nodes = nodes; edges = s.edges; path = path; cyclic = flags }) < left s)
  finish-step marks nodes path flags flag number f c e m n p g =
      let closed : AreMarked (drop base.node s.nodes) (length s.cyclic) s.marks marks = subst (λ (i : ℕ). AreMarked (drop base.node s.nodes) i s.marks marks) e (subst (λ (xs : List ℕ). AreMarked xs number s.marks marks) (closed-part s.nodes) m) in
      let parts : s.nodes ≡ take base.node s.nodes ++ drop base.node s.nodes = sym (take-append-drop base.node s.nodes) in
      let size : length (take base.node s.nodes) ≡ base.node = length-take-le base.node s.nodes base-within in
      let w : count_new marks ≤ count_new s.marks = marked-weight (drop base.node s.nodes) (length s.cyclic) s.marks marks closed in
      let fewer : length s.path ≡ length l.0 + 1 = ap length l.1 ∙ length-append l.0 (base ∷ []) in
      let same : path ≡ l.0 = front-of s.path l.0 path base l.1 p in
      let size2 : length path ≡ length l.0 = ap length same in
      let new : State = record { marks = marks; nodes = take base.node s.nodes; edges = s.edges; path = l.0; cyclic = s.cyclic ++ flag ∷ [] } in
      let search : IsSearch rows new = search-closed rows s l.0 base l.1 (take base.node s.nodes) (drop base.node s.nodes) parts size marks flag f k closed c in
      let older : AreOlder s new = older-closed rows s l.0 base l.1 (take base.node s.nodes) (drop base.node s.nodes) parts size marks flag f k closed c in (
        record {
          search = subst (λ (xs : List ℕ). IsSearch rows (record { marks = marks; nodes = xs; edges = s.edges; path = path; cyclic = flags })) (sym n)
              (subst (λ (ps : List Base). IsSearch rows (record { marks = marks; nodes = take base.node s.nodes; edges = s.edges; path = ps; cyclic = flags })) (sym same)
              (subst (λ (bs : List Bool). IsSearch rows (record { marks = marks; nodes = take base.node s.nodes; edges = s.edges; path = l.0; cyclic = bs })) (sym g) search));
          older = older;
          left = omega (arith, w, fewer, size2);
        },
        omega (arith, w, fewer, size2),
      )

-- ---- the whole search
pub at-start : (rows : List (List ℕ)) (n : ℕ) → n ≡ length rows → IsSearch rows (started (new_marks n))
at-start rows n e = record {
  sizes = length-new_marks n ∙ e;
  along = λ i j x y l a b. absurd (none-there [] i x refl a);
  together = λ i j x y l a b o. absurd (none-there [] i x refl a);
  marked = λ p x a. absurd (none-there [] p x refl a);
  opened = λ p x a. let o : New ≡ Open p = all-new n x (Open p) a in absurd cc;
  rising = λ t u a b l x y. absurd (none-there [] t a refl x);
  waiting = λ t u a b l x y. absurd (none-there [] t a refl x);
  begun = λ t b a. absurd (none-there [] t b refl a);
  room = λ t b a. absurd (none-there [] t b refl a);
  covered = λ p x a. absurd (none-there [] p x refl a);
  source = λ i u a. absurd (none-there [] i u refl a);
  met = λ t q x u b a l c d. absurd (none-there [] t b refl a);
  numbered = λ x m a. let o : New ≡ Done m = all-new n x (Done m) a in absurd cc;
  below = λ x m u a d. let o : New ≡ Done m = all-new n x (Done m) a in absurd cc;
  back = λ x m a c. let o : New ≡ Done m = all-new n x (Done m) a in absurd cc;
}

-- a search in which no node is new or open tells the components
module _ (rows : List (List ℕ)) (s : State) (k : IsSearch rows s) (e : s.nodes ≡ []) (met : (x : ℕ) → x < length rows → At s.marks x New → ⊥) where
  abbrev found : Marks
  found = record { marks = s.marks; cyclic = s.cyclic }

  done : (x : ℕ) → x < length rows → (n : ℕ) × At s.marks x (Done n)
  done x l = from (get_or s.marks x New) (slice_get-get_or s.marks x New (let z : length s.marks ≡ length rows = k.sizes in omega (arith, l, z)))
    where
      from : (m : Mark) → At s.marks x m → (n : ℕ) × At s.marks x (Done n)
      from New a = absurd (met x l a)
      from (Open p) a = absurd (none-there s.nodes p x e (k.opened p x a))
      from (Done n) a = (n, a)

  rank-is : (x n : ℕ) → At s.marks x (Done n) → rank_of found x ≡ n
  rank-is x n a = ap rank_in a

  cyclic-is : (x n : ℕ) → At s.marks x (Done n) → is_cyclic found x ≡ get_or s.cyclic n false
  cyclic-is x n a = ap (is_cyclic_in s.cyclic) a

  edge-from : (i j : ℕ) → IsEdge rows i j → i < length rows
  edge-from i j g = slice_get_within rows i g.row g.of

  pub ranked : AreRanked rows (rank_of found) (is_cyclic found)
  ranked = record {
    down = λ i j g.
        let d : (n : ℕ) × At s.marks i (Done n) = done i (edge-from i j g) in
        let b : IsBelow s.marks s.cyclic d.0 j = k.below i d.0 j d.1 g in
        let x : rank_of found i ≡ d.0 = rank-is i d.0 d.1 in
        let y : rank_of found j ≡ b.number = rank-is j b.number b.done in
        let z : b.number ≤ d.0 = b.down in omega (arith, x, y, z);
    strict = λ i j o g.
        let d : (n : ℕ) × At s.marks i (Done n) = done i (edge-from i j g) in
        let b : IsBelow s.marks s.cyclic d.0 j = k.below i d.0 j d.1 g in
        let x : rank_of found i ≡ d.0 = rank-is i d.0 d.1 in
        let y : rank_of found j ≡ b.number = rank-is j b.number b.done in
        let z : b.number < d.0 = b.strict (sym (cyclic-is i d.0 d.1) ∙ o) in omega (arith, x, y, z);
    back = λ i l o. let d : (n : ℕ) × At s.marks i (Done n) = done i l in k.back i d.0 d.1 (sym (cyclic-is i d.0 d.1) ∙ o);
  }
