-- Where the graph has no cycle, the text of an answer has every tree written out.
use Rattle.std.proofs.Common.{◌≡◌, ℕ, zero, suc, ◌<◌, ◌≤◌, List, [], ◌∷◌, Some, refl, ◌∙◌, subst, inl, inr, arith}
use Rattle.std.specs.Prelude.{slice_get}
use Rattle.akl_terms.specs.Tree.{Tree, Trees, symbol, none, more, list_of}
use Rattle.akl_terms.specs.Equal.{Equations, Equal, same, turned, IsConsistent}
use Rattle.answer_text.specs.Printed as plain_text
use Rattle.answer_text.specs.Cyclic.{IsCyclic, stays, goes}
use Rattle.answer_text.specs.AnswerLines.{Numbers, PrintsTree, class, cycle, plain, WritesTree, number, a_port, constant, compound, cell, PrintsArguments, last, next, PrintsListTail, ends, element, partial, all_written, cycle_line, PrintsAnswerLines, all_shown, line}
use Rattle.answer_text.specs.Graph.{Graph, Stands, IsChild, IsGraphOf, AreThere, Walks, at, on}
use Rattle.answer_text.proofs.GraphTrees.{leads-walks}
use Rattle.answer_text.proofs.SameTrees.{Same-equal', cyclic-same}

-- no cycle: each child has a lower rank
abbrev pub FallsInRank : Graph → (ℕ → ℕ) → Type 0
FallsInRank g rank = (i k j : ℕ) → IsChild g i k j → rank j < rank i

module _ (symbols : List (List ℕ)) (E : Equations) (c : IsConsistent E) (g : Graph) (r : IsGraphOf E g) (rank : ℕ → ℕ) (falls : FallsInRank g rank) where
  walk-down : {ks : List ℕ} {i j : ℕ} → Walks g ks i j → rank j ≤ rank i
  walk-down at = omega arith
  walk-down {i = i} {j = m} (on {j = j} k x w) = let a : rank m ≤ rank j = walk-down w in let b : rank j < rank i = falls i k j x in omega (arith, a, b)

  walk-falls : {ks : List ℕ} {k i j : ℕ} → Walks g (k ∷ ks) i j → rank j < rank i
  walk-falls {i = i} {j = m} (on {j = j} k x w) = let a : rank m ≤ rank j = walk-down w in let b : rank j < rank i = falls i k j x in omega (arith, a, b)

  -- a tree that is equal to the term of a node is not cyclic
  no-cycle : (n i : ℕ) (t s : Tree) → Stands g i t → Equal E s t → rank i < n → IsCyclic E s → ⊥
  no-cycle zero i t s p e l y = absurd (omega (arith, l))
  no-cycle (suc n) i t s p e l y =
      let z : (m : ℕ) × (u : Tree) × Walks g _ i m × Stands g m u × Equal E y.met u = leads-walks E c g r i t p e y.leads in
      let f : rank z.0 < rank i = walk-falls z.2 in
      no-cycle n z.0 z.1 z.1 z.3 same (omega (arith, l, f)) (cyclic-same E c (Same-equal' E c (turned z.4) y.again) y)

  record HasNode (s : Tree) : Type 0 where
    node : ℕ
    term : Tree
    stands : Stands g node term
    equal : Equal E s term

  never : (s : Tree) → HasNode s → IsCyclic E s → ⊥
  never s h y = no-cycle (suc (rank h.node)) h.node h.term s h.stands h.equal (omega arith) y

  -- the arguments of what such a tree is equal to have nodes too
  below : (s : Tree) (f : ℕ) (ts : Trees) → HasNode s → Equal E s (symbol f ts) → (k : ℕ) (a : Tree) → slice_get (list_of ts) k ≡ Some a → HasNode a
  below s f ts h e k a i =
      let z : (m : ℕ) × (u : Tree) × Walks g (k ∷ []) h.node m × Stands g m u × Equal E a u = leads-walks E c g r h.node h.term h.stands h.equal (goes {u = symbol f ts} k e i stays) in
      record { node = z.0; term = z.1; stands = z.3; equal = z.4 }

  abbrev Keeps : Numbers → Numbers → Type 0
  Keeps n m = m.cycles ≡ n.cycles

  mutual
    plain-tree : {n m : Numbers} {s : Tree} {text : List ℕ} → HasNode s → PrintsTree symbols E n s text m → plain_text.Prints symbols E n.classes s text m.classes × Keeps n m
    plain-tree h (class f k) = (plain_text.class f k, refl)
    plain-tree {s = s} h (cycle y k) = absurd (never s h y)
    plain-tree h (plain y w) = plain-written h w

    plain-written : {n m : Numbers} {s : Tree} {text : List ℕ} → HasNode s → WritesTree symbols E n s text m → plain_text.Prints symbols E n.classes s text m.classes × Keeps n m
    plain-written h (number e) = (plain_text.number e, refl)
    plain-written h (a_port e) = (plain_text.a_port e, refl)
    plain-written h (constant e i) = (plain_text.constant e i, refl)
    plain-written {n = n} {m = m} {s = s} h (compound {t = t} {ts = ts} {f = f} e i b p) =
        let z : plain_text.PrintsAll symbols E n.classes (more t ts) _ m.classes × Keeps n m = plain-all (below s f (more t ts) h e) p in (plain_text.compound e i b z.0, z.1)
    plain-written {n = n} {m = m} {s = s} h (cell {m = o} {t = t} {u = u} {f = f} e i p q) =
        let y : plain_text.Prints symbols E n.classes t _ o.classes × Keeps n o = plain-tree (below s f (more t (more u none)) h e 0 t refl) p in
        let z : plain_text.PrintsTail symbols E o.classes u _ m.classes × Keeps o m = plain-tail (below s f (more t (more u none)) h e 1 u refl) q in
        (plain_text.cell e i y.0 z.0, z.1 ∙ y.1)

    plain-all : {n m : Numbers} {ts : Trees} {text : List ℕ} → ((k : ℕ) (a : Tree) → slice_get (list_of ts) k ≡ Some a → HasNode a) → PrintsArguments symbols E n ts text m → plain_text.PrintsAll symbols E n.classes ts text m.classes × Keeps n m
    plain-all {n = n} {m = m} h (last {t = t} p) = let y : plain_text.Prints symbols E n.classes t _ m.classes × Keeps n m = plain-tree (h 0 t refl) p in (plain_text.last y.0, y.1)
    plain-all {n = n} {m = m} h (next {m = o} {t = t} {u = u} {ts = ts} p q) =
        let y : plain_text.Prints symbols E n.classes t _ o.classes × Keeps n o = plain-tree (h 0 t refl) p in
        let z : plain_text.PrintsAll symbols E o.classes (more u ts) _ m.classes × Keeps o m = plain-all (λ k a i. h (suc k) a i) q in
        (plain_text.next y.0 z.0, z.1 ∙ y.1)

    plain-tail : {n m : Numbers} {s : Tree} {text : List ℕ} → HasNode s → PrintsListTail symbols E n s text m → plain_text.PrintsTail symbols E n.classes s text m.classes × Keeps n m
    plain-tail h (ends e i) = (plain_text.ends e i, refl)
    plain-tail {n = n} {m = m} {s = s} h (element {m = o} {t = t} {u = u} {f = f} y e i p q) =
        let v : plain_text.Prints symbols E n.classes t _ o.classes × Keeps n o = plain-tree (below s f (more t (more u none)) h e 0 t refl) p in
        let z : plain_text.PrintsTail symbols E o.classes u _ m.classes × Keeps o m = plain-tail (below s f (more t (more u none)) h e 1 u refl) q in
        (plain_text.element e i v.0 z.0, z.1 ∙ v.1)
    plain-tail {n = n} {m = m} {s = s} h (partial (inl o) p) = let y : plain_text.Prints symbols E n.classes s _ m.classes × Keeps n m = plain-tree h p in (plain_text.partial o y.0, y.1)
    plain-tail {s = s} h (partial (inr y) p) = absurd (never s h y)

  -- each shown term has a node
  abbrev AllHaveNodes : List (List ℕ × Tree) → Type 0
  AllHaveNodes [] = Unit {0}
  AllHaveNodes ((name, t) ∷ shown) = HasNode t × AllHaveNodes shown

  plain-lines : {n : Numbers} (shown : List (List ℕ × Tree)) {text : List ℕ} → n.cycles ≡ [] → AllHaveNodes shown → PrintsAnswerLines symbols E n shown text → plain_text.PrintsLines symbols E n.classes shown text
  plain-lines [] e h (all_shown (all_written m)) = plain_text.no_lines
  plain-lines {n = n} [] e h (all_shown (cycle_line {s = s} i w q)) = absurd (let z : slice_get [] 0 ≡ Some s = subst (λ (xs : List Tree). slice_get xs 0 ≡ Some s) e i in cc)
  plain-lines {n = n} ((name, t) ∷ shown) e h (line {m = m} p q) =
      let y : plain_text.Prints symbols E n.classes t _ m.classes × Keeps n m = plain-tree h.0 p in
      plain_text.line y.0 (plain-lines shown (y.1 ∙ e) h.1 q)

  have-nodes : (shown : List (List ℕ × Tree)) → AreThere E g shown → AllHaveNodes shown
  have-nodes [] a = tt
  have-nodes ((name, t) ∷ shown) a = (record { node = a.0.0; term = a.0.1; stands = a.0.2; equal = a.0.3 }, have-nodes shown a.1)

  pub plain-text : (shown : List (List ℕ × Tree)) (text : List ℕ) → AreThere E g shown → PrintsAnswerLines symbols E (record { classes = []; cycles = [] }) shown text → plain_text.PrintsLines symbols E [] shown text
  plain-text shown text a p = plain-lines shown refl (have-nodes shown a) p
