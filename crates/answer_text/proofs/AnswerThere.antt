-- Trees of a ranked graph have a text.
use Rattle.std.proofs.Common.{◌≡◌, ◌≢◌, ℕ, ℤ, zero, suc, ◌+◌, ◌<◌, ◌≤◌, List, [], ◌∷◌, ◌++◌, length, map, refl, sym, ◌∙◌, ap, subst, inl, inr, arith, Some, Bool, true, false}
use Rattle.std.proofs.lemmas.Bool.{eqb-true}
use Rattle.std.proofs.lemmas.Map.Steps.{length-le_from_distinct_below}
use Rattle.std.specs.Prelude.{slice_get, ◌⊎◌, ◌||◌, codes, bytes_eq, eqb}
use Rattle.std.specs.List.{IsDistinct, AllByRecursion, list_any}
use Rattle.std.proofs.lemmas.Slice.Eq.{bytes_eq-Decides}
use Rattle.akl_terms.specs.declared.name.Name.{Name}
use Rattle.akl_terms.specs.Tree.{Tree, Trees, variable, integer, port, symbol, none, more, list_of, Head, integer_head, port_head, symbol_head, head_of, arguments}
use Rattle.akl_terms.specs.Equal.{Equations, Equal, same, turned, joined, IsConsistent}
use Rattle.answer_text.specs.Printed.{IsFree, IsNumbered, first, here, later, is_cell, GoesOn, IsOtherTail}
use Rattle.answer_text.specs.Cyclic.{SameTree, IsCyclic, LeadsTo, goes}
use Rattle.answer_text.specs.AnswerLines.{Numbers, IsLastTail, PrintsTree, class, cycle, plain, WritesTree, number, a_port, constant, compound, cell, PrintsArguments, last, next, PrintsListTail, ends, element, partial, PrintsCycleLines, all_written, cycle_line, PrintsAnswerLines, all_shown, line, no_numbers}
use Rattle.answer_text.specs.Graph.{Graph, Stands, IsChild, IsGraphOf, IsStable, IsFair, Walks, at, on, ComesBack, IsRanked, HasNames, AreThere}
use Rattle.answer_text.specs.Laws.{TextLaw}
use Rattle.answer_text.proofs.Respects.{free-alike, other-alike}
use Rattle.akl_terms.proofs.Arguments.{same_value}
use Rattle.answer_text.proofs.SameTrees.{Same-equal, Same-equal', Same-free, free-self}
use Rattle.answer_text.proofs.GraphTrees.{stable-same, either_nat, back-cyclic, cyclic-back}

-- no walk leads up
walk-down : (g : Graph) (block rank : ℕ → ℕ) (cyclic : ℕ → Bool) → IsRanked g block rank cyclic → {ks : List ℕ} {i j : ℕ} → Walks g ks i j → rank j ≤ rank i
walk-down g block rank cyclic w at = omega arith
walk-down g block rank cyclic w (on {i = i} {j = j} {m = m} k x r) = let a : rank m ≤ rank j = walk-down g block rank cyclic w r in let b : rank j ≤ rank i = w.down i k j x in omega (arith, a, b)

walk-strict : (g : Graph) (block rank : ℕ → ℕ) (cyclic : ℕ → Bool) → IsRanked g block rank cyclic → {ks : List ℕ} {k i j : ℕ} → cyclic i ≡ false → Walks g (k ∷ ks) i j → rank j < rank i
walk-strict g block rank cyclic w {i = i} f (on {j = j} {m = m} k x r) = let a : rank m ≤ rank j = walk-down g block rank cyclic w r in let b : rank j < rank i = w.strict i k j f x in omega (arith, a, b)

pub ranked-cyclic : (E : Equations) (g : Graph) (block rank : ℕ → ℕ) (cyclic : ℕ → Bool) → IsConsistent E → IsGraphOf E g → IsStable E g block → IsFair E g block → IsRanked g block rank cyclic
    → (i : ℕ) (t : Tree) → Stands g i t → (cyclic i ≡ true → IsCyclic E t) × (cyclic i ≡ false → IsCyclic E t → ⊥)
ranked-cyclic E g block rank cyclic c r b f w i t p = (λ e. back-cyclic E c g block r b i t p (w.back i t p e), never)
  where
    never : cyclic i ≡ false → IsCyclic E t → ⊥
    never e y =
        let z : ComesBack g block i = cyclic-back E c g block r f i t p y in
        let l : rank z.to < rank i = walk-strict g block rank cyclic w e z.walks in
        let q : rank i ≡ rank z.to = w.one i z.to z.again in omega (arith, l, q)

-- the block of each node is below this number
abbrev AreBelow : Graph → (ℕ → ℕ) → ℕ → Type 0
AreBelow g block n = (i : ℕ) (t : Tree) → Stands g i t → block i < n

abbrev Is : ℕ → ℕ → Type 0
Is a b = a ≡ b

-- these nodes stand for these trees
abbrev AreNodes : Graph → List Tree → List ℕ → Type 0
AreNodes g [] [] = Unit {0}
AreNodes g [] (i ∷ is) = ⊥
AreNodes g (x ∷ xs) [] = ⊥
AreNodes g (x ∷ xs) (i ∷ is) = Stands g i x × AreNodes g xs is

pub either_bool : (t : Bool) → (t ≡ true) ⊎ (t ≡ false)
either_bool true = inl refl
either_bool false = inr refl

differs : (a b : ℕ) → a ≢ b → eqb a b ≡ false
differs a b d = test (eqb a b) refl
  where
    test : (t : Bool) → eqb a b ≡ t → eqb a b ≡ false
    test true e = absurd (d (eqb-true a b e))
    test false e = e

-- an equal term prints alike
module _ (E : Equations) (c : IsConsistent E) where
  numbered-equal : (R : Tree → Tree → Type 0) → ((x y z : Tree) → Equal E x y → R y z → R x z) → {seen new : List Tree} {s t : Tree} {k : ℕ} → Equal E t s → IsNumbered R seen s k new → IsNumbered R seen t k new
  numbered-equal R move e (first m) = first (move _ _ _ e m)
  numbered-equal R move e (here m) = here (move _ _ _ e m)
  numbered-equal R move e (later n m) = later (λ x. n (move _ _ _ (turned e) x)) (numbered-equal R move e m)

  cyclic-equal : {s t : Tree} → Equal E t s → IsCyclic E s → IsCyclic E t
  cyclic-equal e y = record { at = y.at; below = y.below; met = y.met; leads = from e y.leads; again = Same-equal E c e y.again }
    where
      from : {ks : List ℕ} {k : ℕ} {s t m : Tree} → Equal E t s → LeadsTo E (k ∷ ks) s m → LeadsTo E (k ∷ ks) t m
      from e (goes k p i l) = goes k (joined e p) i l

  module _ (symbols : List (List ℕ)) where
    writes-equal : {n m : Numbers} {s t : Tree} {text : List ℕ} → Equal E t s → WritesTree symbols E n s text m → WritesTree symbols E n t text m
    writes-equal e (number p) = number (joined e p)
    writes-equal e (a_port p) = a_port (joined e p)
    writes-equal e (constant p i) = constant (joined e p) i
    writes-equal e (compound p i b q) = compound (joined e p) i b q
    writes-equal e (cell p i q r) = cell (joined e p) i q r

    pub prints-equal : {n m : Numbers} {s t : Tree} {text : List ℕ} → Equal E t s → PrintsTree symbols E n s text m → PrintsTree symbols E n t text m
    prints-equal {s = s} {t = t} e (class f k) = class (free-alike E s t (turned e) f) (numbered-equal (Equal E) (λ x y z p q. joined p q) e k)
    prints-equal e (cycle y k) = cycle (cyclic-equal e y) (numbered-equal (SameTree E) (λ x y z p q. Same-equal E c p q) e k)
    prints-equal e (plain y w) = plain (λ x. y (cyclic-equal (turned e) x)) (writes-equal e w)

    last-equal : {s t : Tree} → Equal E t s → IsLastTail symbols E s → IsLastTail symbols E t
    last-equal {s = s} {t = t} e (inl o) = inl (other-alike symbols E s t (turned e) o)
    last-equal e (inr y) = inr (cyclic-equal e y)

    pub tail-equal : {n m : Numbers} {s t : Tree} {text : List ℕ} → Equal E t s → PrintsListTail symbols E n s text m → PrintsListTail symbols E n t text m
    tail-equal e (ends p i) = ends (joined e p) i
    tail-equal e (element y p i q r) = element (λ x. y (cyclic-equal (turned e) x)) (joined e p) i q r
    tail-equal e (partial o p) = partial (last-equal e o) (prints-equal e p)

nat-lt : (k n : ℕ) → k ≤ n → k ≢ n → k < n
nat-lt zero zero l d = absurd (d refl)
nat-lt zero (suc n) l d = omega arith
nat-lt (suc k) zero l d = absurd (omega (arith, l))
nat-lt (suc k) (suc n) l d = let m : k < n = nat-lt k n (omega (arith, l)) (λ e. d (ap suc e)) in omega (arith, m)

no-two : IsDistinct eqb []
unfolding IsDistinct
no-two = tt

module _ (symbols : List (List ℕ)) (E : Equations) where
  numbered-grows : {seen new : List Tree} {s : Tree} {k : ℕ} → IsNumbered (SameTree E) seen s k new → length seen ≤ length new
  numbered-grows (first m) = omega arith
  numbered-grows (here m) = omega arith
  numbered-grows (later {seen = seen} {new = new} n m) = let l : length seen ≤ length new = numbered-grows m in omega (arith, l)

  mutual
    prints-grows : {n m : Numbers} {s : Tree} {text : List ℕ} → PrintsTree symbols E n s text m → length n.cycles ≤ length m.cycles
    prints-grows (class f k) = omega arith
    prints-grows (cycle y k) = numbered-grows k
    prints-grows (plain y w) = writes-grows w

    pub writes-grows : {n m : Numbers} {s : Tree} {text : List ℕ} → WritesTree symbols E n s text m → length n.cycles ≤ length m.cycles
    writes-grows (number e) = omega arith
    writes-grows (a_port e) = omega arith
    writes-grows (constant e i) = omega arith
    writes-grows (compound e i b p) = all-grows p
    writes-grows (cell {n = n} {m = m} {o = o} e i p q) = let a : length n.cycles ≤ length m.cycles = prints-grows p in let b : length m.cycles ≤ length o.cycles = tail-grows q in omega (arith, a, b)

    all-grows : {n m : Numbers} {ts : Trees} {text : List ℕ} → PrintsArguments symbols E n ts text m → length n.cycles ≤ length m.cycles
    all-grows (last p) = prints-grows p
    all-grows (next {n = n} {m = m} {o = o} p q) = let a : length n.cycles ≤ length m.cycles = prints-grows p in let b : length m.cycles ≤ length o.cycles = all-grows q in omega (arith, a, b)

    tail-grows : {n m : Numbers} {s : Tree} {text : List ℕ} → PrintsListTail symbols E n s text m → length n.cycles ≤ length m.cycles
    tail-grows (ends e i) = omega arith
    tail-grows (element {n = n} {m = m} {o = o} y e i p q) = let a : length n.cycles ≤ length m.cycles = prints-grows p in let b : length m.cycles ≤ length o.cycles = tail-grows q in omega (arith, a, b)
    tail-grows (partial o p) = prints-grows p

module _ (symbols : List (List ℕ)) (E : Equations) (g : Graph) (block rank : ℕ → ℕ) (cyclic : ℕ → Bool) (c : IsConsistent E) (r : IsGraphOf E g) (b : IsStable E g block) (f : IsFair E g block)
    (w : IsRanked g block rank cyclic) (names : HasNames symbols g) where
  -- the numbers given so far are of nodes, and no two cyclic trees of one block
  record Good (n : Numbers) : Type 0 where
    class_nodes : List ℕ
    cycle_nodes : List ℕ
    are_classes : AreNodes g n.classes class_nodes
    are_cycles : AreNodes g n.cycles cycle_nodes
    distinct : IsDistinct eqb (map block cycle_nodes)
    headed : (k : ℕ) (s : Tree) → slice_get n.cycles k ≡ Some s → (h : Head) × (head_of s ≡ Some h)

  -- blocks decide which trees are related to the tree of a node
  record Decides (R : Tree → Tree → Type 0) (i : ℕ) (t : Tree) : Type 0 where
    one : (j : ℕ) (x : Tree) → Stands g j x → block i ≡ block j → R t x
    other : (j : ℕ) (x : Tree) → Stands g j x → block i ≢ block j → R t x → ⊥

  record Found (R : Tree → Tree → Type 0) (seen : List Tree) (is : List ℕ) (i : ℕ) (t : Tree) : Type 0 where
    place : ℕ
    new : List Tree
    nodes : List ℕ
    numbered : IsNumbered R seen t place new
    are : AreNodes g new nodes
    others : (x : ℕ) → AllByRecursion (λ y. eqb x y ≡ false) (map block is) → eqb x (block i) ≡ false → AllByRecursion (λ y. eqb x y ≡ false) (map block nodes)
    distinct : IsDistinct eqb (map block is) → IsDistinct eqb (map block nodes)
    only : (k : ℕ) (s : Tree) → slice_get new k ≡ Some s → (slice_get seen k ≡ Some s) ⊎ (s ≡ t)

  find : (R : Tree → Tree → Type 0) (seen : List Tree) (is : List ℕ) → AreNodes g seen is → (i : ℕ) (t : Tree) → Stands g i t → Decides R i t → Found R seen is i t
  unfolding IsDistinct
  find R [] [] a i t p q = record { place = 0; new = t ∷ []; nodes = i ∷ []; numbered = first (q.one i t p refl); are = (p, tt); others = λ x m d. (d, tt); distinct = λ m. (tt, tt); only = λ k s m. only-one k s m }
    where
      only-one : (k : ℕ) (s : Tree) → slice_get (t ∷ []) k ≡ Some s → (slice_get [] k ≡ Some s) ⊎ (s ≡ t)
      only-one zero s m = inr (let e : t ≡ s = cc in sym e)
      only-one (suc k) s m = cc
  find R [] (j ∷ js) a i t p q = absurd a
  find R (x ∷ xs) [] a i t p q = absurd a
  find R (x ∷ xs) (j ∷ js) a i t p q = on_block (either_nat (block i) (block j)) (find R xs js a.1 i t p q)
    where
      only-more : (new : List Tree) (k : ℕ) (s : Tree) → ((k : ℕ) (s : Tree) → slice_get new k ≡ Some s → (slice_get xs k ≡ Some s) ⊎ (s ≡ t)) → slice_get (x ∷ new) k ≡ Some s → (slice_get (x ∷ xs) k ≡ Some s) ⊎ (s ≡ t)
      only-more new zero s h m = inl m
      only-more new (suc k) s h m = h k s m

      on_block : (block i ≡ block j) ⊎ (block i ≢ block j) → Found R xs js i t → Found R (x ∷ xs) (j ∷ js) i t
      on_block (inl e) z = record { place = 0; new = x ∷ xs; nodes = j ∷ js; numbered = here (q.one j x a.0 e); are = a; others = λ y m d. m; distinct = λ m. m; only = λ k s m. inl m }
      on_block (inr d) z = record {
        place = suc z.place;
        new = x ∷ z.new;
        nodes = j ∷ z.nodes;
        numbered = later (λ m. q.other j x a.0 d m) z.numbered;
        are = (a.0, z.are);
        others = λ y m e. (m.0, z.others y m.1 e);
        distinct = λ m. (z.others (block j) m.0 (differs (block j) (block i) (λ e. d (sym e))), z.distinct m.1);
        only = λ k s m. only-more z.new k s z.only m;
      }

  decides-class : (i : ℕ) (t : Tree) → Stands g i t → IsFree E t → Decides (Equal E) i t
  decides-class i t p free = record {
    one = λ j x q e. Same-free E c (stable-same E c g block r b i j t x p q e) free;
    other = λ j x q d m. f.differ i j t x p q d (Same-equal' E c (turned m) (free-self E c free));
  }

  decides-tree : (i : ℕ) (t : Tree) → Stands g i t → Decides (SameTree E) i t
  decides-tree i t p = record { one = λ j x q e. stable-same E c g block r b i j t x p q e; other = λ j x q d m. f.differ i j t x p q d m }

  -- there is a text of the tree, whatever has been printed before
  abbrev Printed : Tree → Type 0
  Printed t = (n : Numbers) → Good n → (text : List ℕ) × (m : Numbers) × PrintsTree symbols E n t text m × Good m

  abbrev Written : Tree → Type 0
  Written t = (n : Numbers) → Good n → (text : List ℕ) × (m : Numbers) × WritesTree symbols E n t text m × Good m

  abbrev Tailed : Tree → Type 0
  Tailed t = (n : Numbers) → Good n → (text : List ℕ) × (m : Numbers) × PrintsListTail symbols E n t text m × Good m

  abbrev AllPrinted : Trees → Type 0
  AllPrinted ts = (n : Numbers) → Good n → (text : List ℕ) × (m : Numbers) × PrintsArguments symbols E n ts text m × Good m

  all-there : (t : Tree) (ts : Trees) → ((k : ℕ) (a : Tree) → slice_get (list_of (more t ts)) k ≡ Some a → Printed a) → AllPrinted (more t ts)
  all-there t none p n g' = let z : (text : List ℕ) × (m : Numbers) × PrintsTree symbols E n t text m × Good m = p 0 t refl n g' in (z.0, z.1, last z.2, z.3)
  all-there t (more u us) p n g' =
      let z : (text : List ℕ) × (m : Numbers) × PrintsTree symbols E n t text m × Good m = p 0 t refl n g' in
      let y : (text : List ℕ) × (m : Numbers) × PrintsArguments symbols E z.1 (more u us) text m × Good m = all-there u us (λ k a e. p (suc k) a e) z.1 z.3 in
      (z.0 ++ 44 ∷ y.0, y.1, next z.2 y.2, y.3)

  cell-there : (t u : Tree) (n : Numbers) → Good n → Printed t → Tailed u → (h : List ℕ) × (rest : List ℕ) × (m o : Numbers) × PrintsTree symbols E n t h m × PrintsListTail symbols E m u rest o × Good o
  cell-there t u n g' p q =
      let z : (text : List ℕ) × (m : Numbers) × PrintsTree symbols E n t text m × Good m = p n g' in
      let y : (text : List ℕ) × (m : Numbers) × PrintsListTail symbols E z.1 u text m × Good m = q z.1 z.3 in
      (z.0, y.0, z.1, y.1, z.2, y.2, y.3)

  -- a tree is written out where its arguments are printed
  written : (i : ℕ) (t : Tree) (h : Head) → Stands g i t → head_of t ≡ Some h → ((k : ℕ) (a : Tree) → slice_get (arguments t) k ≡ Some a → Printed a × Tailed a) → Written t
  written i (variable x) h p e children n g' = cc
  written i (integer z) h p e children n g' = (_, n, number same, g')
  written i (port z) h p e children n g' = (_, n, a_port same, g')
  written i (symbol q none) h p e children n g' = let z : (name : List ℕ) × (slice_get symbols q ≡ Some name) = names.name i q none p in (_, n, constant same z.1, g')
  written i (symbol q (more t ts)) h p e children n g' = on_cell (names.name i q (more t ts) p)
    where
      others : (name : List ℕ) → slice_get symbols q ≡ Some name → is_cell name (more t ts) ≡ false → (text : List ℕ) × (m : Numbers) × WritesTree symbols E n (symbol q (more t ts)) text m × Good m
      others name s d = let z : (text : List ℕ) × (m : Numbers) × PrintsArguments symbols E n (more t ts) text m × Good m = all-there t ts (λ k a y. (children k a y).0) n g' in
          (_, z.1, compound same s d z.2, z.3)

      one_more : (us : Trees) (name : List ℕ) → us ≡ ts → slice_get symbols q ≡ Some name → is_cell name (more t us) ≡ true → (text : List ℕ) × (m : Numbers) × WritesTree symbols E n (symbol q (more t us)) text m × Good m
      one_more none name y s e = absurd cc
      one_more (more u none) name y s e =
          let k0 : Printed t = (children 0 t refl).0 in
          let k1 : Tailed u = (children 1 u (ap (λ (v : Trees). slice_get (list_of (more t v)) 1) (sym y))).1 in
          let z : (h : List ℕ) × (rest : List ℕ) × (m o : Numbers) × PrintsTree symbols E n t h m × PrintsListTail symbols E m u rest o × Good o = cell-there t u n g' k0 k1 in
          (_, z.3, cell same (s ∙ ap Some ((bytes_eq-Decides name (codes ".")).0 e)) z.4 z.5, z.6)
      one_more (more u (more v vs)) name y s e = absurd cc

      on_cell : (name : List ℕ) × (slice_get symbols q ≡ Some name) → (text : List ℕ) × (m : Numbers) × WritesTree symbols E n (symbol q (more t ts)) text m × Good m
      on_cell z = pick (either_bool (is_cell z.0 (more t ts)))
        where
          pick : (is_cell z.0 (more t ts) ≡ true) ⊎ (is_cell z.0 (more t ts) ≡ false) → (text : List ℕ) × (m : Numbers) × WritesTree symbols E n (symbol q (more t ts)) text m × Good m
          pick (inl y) = one_more ts z.0 refl z.1 y
          pick (inr y) = others z.0 z.1 y

  -- terms that are no part of a list
  pub other-integer : (z : ℤ) → IsOtherTail symbols E (integer z)
  other-integer z = record { other = λ q ts m o. let x : integer_head z ≡ symbol_head q (length (list_of ts)) = c.heads m refl refl in absurd cc }

  pub other-port : (z : Name) → IsOtherTail symbols E (port z)
  other-port z = record { other = λ q ts m o. let x : port_head z ≡ symbol_head q (length (list_of ts)) = c.heads m refl refl in absurd cc }

  moved : (us ts : Trees) (q q' : ℕ) → symbol_head q (length (list_of us)) ≡ symbol_head q' (length (list_of ts)) → GoesOn symbols q' ts → GoesOn symbols q us
  moved none none q q' x o = let e : q ≡ q' = cc in ap (slice_get symbols) e ∙ o
  moved (more a us) none q q' x o = absurd (let l : Is (suc (length (list_of us))) 0 = cc in omega (arith, l))
  moved us (more t none) q q' x o = absurd o
  moved none (more t (more u none)) q q' x o = absurd (let l : Is 0 2 = cc in omega (arith, l))
  moved (more a none) (more t (more u none)) q q' x o = absurd (let l : Is 1 2 = cc in omega (arith, l))
  moved (more a (more b none)) (more t (more u none)) q q' x o = let e : q ≡ q' = cc in ap (slice_get symbols) e ∙ o
  moved (more a (more b (more d ds))) (more t (more u none)) q q' x o = absurd (let l : Is (suc (suc (suc (length (list_of ds))))) 2 = cc in omega (arith, l))
  moved us (more t (more u (more v vs))) q q' x o = absurd o

  pub other-symbol : (q : ℕ) (us : Trees) → (GoesOn symbols q us → ⊥) → IsOtherTail symbols E (symbol q us)
  other-symbol q us d = record { other = λ q' ts m o. d (moved us ts q q' (c.heads m refl refl) o) }

  pub other-name : (q : ℕ) (name : List ℕ) (wanted : List ℕ) → bytes_eq wanted wanted ≡ true → slice_get symbols q ≡ Some name → bytes_eq name wanted ≡ false → slice_get symbols q ≡ Some wanted → ⊥
  other-name q name wanted t e d o =
      let m : name ≡ wanted = same_value e o in
      let x : bytes_eq wanted wanted ≡ false = subst (λ (z : List ℕ). bytes_eq z wanted ≡ false) m d in
      let y : true ≡ false = sym t ∙ x in absurd cc

  partial-there : (t : Tree) → IsLastTail symbols E t → Printed t → Tailed t
  partial-there t o p n g' = let z : (text : List ℕ) × (m : Numbers) × PrintsTree symbols E n t text m × Good m = p n g' in (_, z.1, partial o z.2, z.3)

  tail-node : (i : ℕ) (t : Tree) (h : Head) → Stands g i t → head_of t ≡ Some h → (IsCyclic E t → ⊥) → ((k : ℕ) (a : Tree) → slice_get (arguments t) k ≡ Some a → Printed a × Tailed a) → Printed t → Tailed t
  tail-node i (variable x) h p e y children whole n g' = cc
  tail-node i (integer z) h p e y children whole n g' = partial-there (integer z) (inl (other-integer z)) whole n g'
  tail-node i (port z) h p e y children whole n g' = partial-there (port z) (inl (other-port z)) whole n g'
  tail-node i (symbol q none) h p e y children whole n g' = on_name (names.name i q none p)
    where
      pick : (name : List ℕ) → slice_get symbols q ≡ Some name → (bytes_eq name (codes "[]") ≡ true) ⊎ (bytes_eq name (codes "[]") ≡ false) → (text : List ℕ) × (m : Numbers) × PrintsListTail symbols E n (symbol q none) text m × Good m
      pick name s (inl d) = (_, n, ends same (s ∙ ap Some ((bytes_eq-Decides name (codes "[]")).0 d)), g')
      pick name s (inr d) = partial-there (symbol q none) (inl (other-symbol q none (λ o. other-name q name (codes "[]") refl s d o))) whole n g'

      on_name : (name : List ℕ) × (slice_get symbols q ≡ Some name) → (text : List ℕ) × (m : Numbers) × PrintsListTail symbols E n (symbol q none) text m × Good m
      on_name z = pick z.0 z.1 (either_bool (bytes_eq z.0 (codes "[]")))
  tail-node i (symbol q (more a none)) h p e y children whole n g' = partial-there (symbol q (more a none)) (inl (other-symbol q (more a none) (λ o. o))) whole n g'
  tail-node i (symbol q (more a (more u none))) h p e y children whole n g' = on_name (names.name i q (more a (more u none)) p)
    where
      pick : (name : List ℕ) → slice_get symbols q ≡ Some name → (bytes_eq name (codes ".") ≡ true) ⊎ (bytes_eq name (codes ".") ≡ false) → (text : List ℕ) × (m : Numbers) × PrintsListTail symbols E n (symbol q (more a (more u none))) text m × Good m
      pick name s (inl d) =
          let z : (h : List ℕ) × (rest : List ℕ) × (m o : Numbers) × PrintsTree symbols E n a h m × PrintsListTail symbols E m u rest o × Good o = cell-there a u n g' (children 0 a refl).0 (children 1 u refl).1 in
          (_, z.3, element y same (s ∙ ap Some ((bytes_eq-Decides name (codes ".")).0 d)) z.4 z.5, z.6)
      pick name s (inr d) = partial-there (symbol q (more a (more u none))) (inl (other-symbol q (more a (more u none)) (λ o. other-name q name (codes ".") refl s d o))) whole n g'

      on_name : (name : List ℕ) × (slice_get symbols q ≡ Some name) → (text : List ℕ) × (m : Numbers) × PrintsListTail symbols E n (symbol q (more a (more u none))) text m × Good m
      on_name z = pick z.0 z.1 (either_bool (bytes_eq z.0 (codes ".")))
  tail-node i (symbol q (more a (more u (more v vs)))) h p e y children whole n g' = partial-there (symbol q (more a (more u (more v vs)))) (inl (other-symbol q (more a (more u (more v vs))) (λ o. o))) whole n g'

  -- what is there for the term of a node is there for an equal argument
  lift : (a u : Tree) → Equal E a u → Printed u × Tailed u → Printed a × Tailed a
  lift a u e z = (
    λ n g'. let y : (text : List ℕ) × (m : Numbers) × PrintsTree symbols E n u text m × Good m = z.0 n g' in (y.0, y.1, prints-equal E c symbols e y.2, y.3),
    λ n g'. let y : (text : List ℕ) × (m : Numbers) × PrintsListTail symbols E n u text m × Good m = z.1 n g' in (y.0, y.1, tail-equal E c symbols e y.2, y.3),
  )

  class-there : (i : ℕ) (t : Tree) → Stands g i t → IsFree E t → Printed t
  class-there i t p free n g' =
      let z : Found (Equal E) n.classes g'.class_nodes i t = find (Equal E) n.classes g'.class_nodes g'.are_classes i t p (decides-class i t p free) in
      (_, record n { classes = z.new }, class free z.numbered, record { class_nodes = z.nodes; cycle_nodes = g'.cycle_nodes; are_classes = z.are; are_cycles = g'.are_cycles; distinct = g'.distinct; headed = g'.headed })

  cycle-there : (i : ℕ) (t : Tree) (h : Head) → Stands g i t → head_of t ≡ Some h → IsCyclic E t → Printed t
  cycle-there i t h p e y n g' =
      let z : Found (SameTree E) n.cycles g'.cycle_nodes i t = find (SameTree E) n.cycles g'.cycle_nodes g'.are_cycles i t p (decides-tree i t p) in (
        _,
        record n { cycles = z.new },
        cycle y z.numbered,
        record {
          class_nodes = g'.class_nodes;
          cycle_nodes = z.nodes;
          are_classes = g'.are_classes;
          are_cycles = z.are;
          distinct = z.distinct g'.distinct;
          headed = λ k s q. elim (z.only k s q) [ inl m ↦ g'.headed k s m | inr m ↦ (h, ap head_of m ∙ e) ];
        },
      )

  plain-there : (t : Tree) → (IsCyclic E t → ⊥) → Written t → Printed t
  plain-there t y q n g' = let z : (text : List ℕ) × (m : Numbers) × WritesTree symbols E n t text m × Good m = q n g' in (z.0, z.1, plain y z.2, z.3)

  pub other-free : (t : Tree) → IsFree E t → IsOtherTail symbols E t
  other-free t free = record { other = λ q ts m o. free.free (symbol q ts) (symbol_head q (length (list_of ts))) m refl }

  -- a node whose children are there is there
  here-too : (i : ℕ) (t : Tree) → Stands g i t → ((k j : ℕ) (u : Tree) → cyclic i ≡ false → IsChild g i k j → Stands g j u → Printed u × Tailed u)
      → IsFree E t ⊎ ((h : Head) × (head_of t ≡ Some h)) → (cyclic i ≡ true) ⊎ (cyclic i ≡ false) → Printed t × Tailed t
  here-too i t p ih (inl free) y = (class-there i t p free, partial-there t (inl (other-free t free)) (class-there i t p free))
  here-too i t p ih (inr h) (inl y) =
      let z : IsCyclic E t = (ranked-cyclic E g block rank cyclic c r b f w i t p).0 y in
      (cycle-there i t h.0 p h.1 z, partial-there t (inr z) (cycle-there i t h.0 p h.1 z))
  here-too i t p ih (inr h) (inr y) = (whole, tail-node i t h.0 p h.1 never children whole)
    where
      never : IsCyclic E t → ⊥
      never = (ranked-cyclic E g block rank cyclic c r b f w i t p).1 y

      children : (k : ℕ) (a : Tree) → slice_get (arguments t) k ≡ Some a → Printed a × Tailed a
      children k a q = let v : (j : ℕ) × IsChild g i k j × (u : Tree) × Stands g j u × Equal E a u = r.argument i k t a p q in lift a v.2 v.4 (ih k v.0 v.2 y v.1 v.3)

      whole : Printed t
      whole = plain-there t never (written i t h.0 p h.1 children)

  node : (fuel i : ℕ) (t : Tree) → Stands g i t → rank i < fuel → Printed t × Tailed t
  node zero i t p l = absurd (omega (arith, l))
  node (suc fuel) i t p l = here-too i t p (λ k j u y q s. node fuel j u s (let d : rank j < rank i = w.strict i k j y q in omega (arith, d, l))) (r.ends i t p) (either_bool (cyclic i))

  any : (i : ℕ) (t : Tree) → Stands g i t → Printed t × Tailed t
  any i t p = node (suc (rank i)) i t p (omega arith)

  any-written : (i : ℕ) (t : Tree) (h : Head) → Stands g i t → head_of t ≡ Some h → Written t
  any-written i t h p e = written i t h p e (λ k a q. let v : (j : ℕ) × IsChild g i k j × (u : Tree) × Stands g j u × Equal E a u = r.argument i k t a p q in lift a v.2 v.4 (any v.0 v.2 v.3))

  length-nodes : (xs : List Tree) (is : List ℕ) → AreNodes g xs is → length xs ≡ length (map block is)
  length-nodes [] [] a = refl
  length-nodes [] (i ∷ is) a = absurd a
  length-nodes (x ∷ xs) [] a = absurd a
  length-nodes (x ∷ xs) (i ∷ is) a = ap suc (length-nodes xs is a.1)

  below : (B : ℕ) → AreBelow g block B → (xs : List Tree) (is : List ℕ) → AreNodes g xs is → (q : ℕ) → list_any (eqb q) (map block is) ≡ true → q < B
  below B h [] [] a q e = absurd cc
  below B h [] (i ∷ is) a q e = absurd a
  below B h (x ∷ xs) [] a q e = absurd a
  below B h (x ∷ xs) (i ∷ is) a q e = pick (eqb q (block i)) refl e (λ d. below B h xs is a.1 q d)
    where
      pick : (t : Bool) → eqb q (block i) ≡ t → (t || list_any (eqb q) (map block is)) ≡ true → (list_any (eqb q) (map block is) ≡ true → q < B) → q < B
      pick true d e ih = let l : block i < B = h i x a.0 in let m : q ≡ block i = eqb-true q (block i) d in omega (arith, l, m)
      pick false d e ih = ih e

  few : (B : ℕ) → AreBelow g block B → (n : Numbers) → Good n → length n.cycles ≤ B
  few B h n g' =
      let l : length (map block g'.cycle_nodes) ≤ B = length-le_from_distinct_below (map block g'.cycle_nodes) B g'.distinct (below B h n.cycles g'.cycle_nodes g'.are_cycles) in
      let m : length n.cycles ≡ length (map block g'.cycle_nodes) = length-nodes n.cycles g'.cycle_nodes g'.are_cycles in omega (arith, l, m)

  node-at : (xs : List Tree) (is : List ℕ) → AreNodes g xs is → (k : ℕ) → k < length xs → (i : ℕ) × (s : Tree) × Stands g i s × (slice_get xs k ≡ Some s)
  node-at [] is a k l = absurd (omega (arith, l))
  node-at (x ∷ xs) [] a k l = absurd a
  node-at (x ∷ xs) (i ∷ is) a zero l = (i, x, a.0, refl)
  node-at (x ∷ xs) (i ∷ is) a (suc k) l = node-at xs is a.1 k (omega (arith, l))

  cycles-there : (B : ℕ) → AreBelow g block B → (fuel k : ℕ) (n : Numbers) → Good n → k ≤ length n.cycles → B ≤ k + fuel → (text : List ℕ) × PrintsCycleLines symbols E k n text
  cycles-there B h zero k n g' l d = let m : length n.cycles ≤ B = few B h n g' in ([], all_written (omega (arith, l, d, m)))
  cycles-there B h (suc fuel) k n g' l d = pick (either_nat k (length n.cycles)) (λ m y o p. cycles-there B h fuel (suc k) m y o p)
    where
      pick : (k ≡ length n.cycles) ⊎ (k ≢ length n.cycles) → ((m : Numbers) → Good m → suc k ≤ length m.cycles → B ≤ suc k + fuel → (text : List ℕ) × PrintsCycleLines symbols E (suc k) m text) → (text : List ℕ) × PrintsCycleLines symbols E k n text
      pick (inl e) ih = ([], all_written e)
      pick (inr e) ih =
          let o : k < length n.cycles = nat-lt k (length n.cycles) l e in
          let v : (i : ℕ) × (s : Tree) × Stands g i s × (slice_get n.cycles k ≡ Some s) = node-at n.cycles g'.cycle_nodes g'.are_cycles k o in
          let j : (h : Head) × (head_of v.1 ≡ Some h) = g'.headed k v.1 v.3 in
          let z : (text : List ℕ) × (m : Numbers) × WritesTree symbols E n v.1 text m × Good m = any-written v.0 v.1 j.0 v.2 j.1 n g' in
          let q : length n.cycles ≤ length z.1.cycles = writes-grows symbols E z.2 in
          let y : (text : List ℕ) × PrintsCycleLines symbols E (suc k) z.1 text = ih z.1 z.3 (omega (arith, o, q)) (omega (arith, d)) in
          (_, cycle_line v.3 z.2 y.1)

  lines-there : (B : ℕ) → AreBelow g block B → (n : Numbers) → Good n → (shown : List (List ℕ × Tree)) → AreThere E g shown → (text : List ℕ) × PrintsAnswerLines symbols E n shown text
  lines-there B h n g' [] a = let z : (text : List ℕ) × PrintsCycleLines symbols E 0 n text = cycles-there B h B 0 n g' (omega arith) (omega arith) in (z.0, all_shown z.1)
  lines-there B h n g' ((name, t) ∷ shown) a =
      let z : (text : List ℕ) × (m : Numbers) × PrintsTree symbols E n t text m × Good m = (lift t a.0.1 a.0.3 (any a.0.0 a.0.1 a.0.2)).0 n g' in
      let y : (text : List ℕ) × PrintsAnswerLines symbols E z.1 shown text = lines-there B h z.1 z.3 shown a.1 in
      (_, line z.2 y.1)

-- some number is above the blocks of all nodes
above : (block : ℕ → ℕ) (xs : List Tree) → (n : ℕ) × ((i : ℕ) (t : Tree) → slice_get xs i ≡ Some t → block i < n)
above block [] = (0, λ i t p. cc)
above block (x ∷ xs) = over (above (λ i. block (suc i)) xs)
  where
    over : (n : ℕ) × ((i : ℕ) (t : Tree) → slice_get xs i ≡ Some t → block (suc i) < n) → (n : ℕ) × ((i : ℕ) (t : Tree) → slice_get (x ∷ xs) i ≡ Some t → block i < n)
    over z = (block 0 + suc z.0, up)
      where
        up : (i : ℕ) (t : Tree) → slice_get (x ∷ xs) i ≡ Some t → block i < block 0 + suc z.0
        up zero t p = omega arith
        up (suc i) t p = let l : block (suc i) < z.0 = z.1 i t p in omega (arith, l)

pub text_there : TextLaw
text_there symbols E g block rank cyclic shown c d a =
    let z : (n : ℕ) × AreBelow g block n = above block g.terms in
    lines-there symbols E g block rank cyclic c d.graph d.stable d.fair d.ranked d.names z.0 z.1 no_numbers (record { class_nodes = []; cycle_nodes = []; are_classes = tt; are_cycles = tt; distinct = no-two; headed = λ k s q. cc }) shown a
