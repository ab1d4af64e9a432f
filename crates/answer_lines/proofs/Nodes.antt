-- Nodes of a decided graph: what they begin with, their rows, and their numbers.
use Rattle.std.proofs.Common.{◌≡◌, ℕ, zero, suc, List, [], ◌∷◌, length, Option, Some, None, Bool, true, false, cond, refl, sym, ◌∙◌, ap, subst, nat_eq, eq-eqb}
use Rattle.std.specs.Prelude.{slice_get, get_or, option_map, unwrap_or, pos}
use Rattle.std.proofs.lemmas.Bool.{eqb-true}
use Rattle.std.proofs.lemmas.Option.{slice_get-map, get_or_from_slice_get, unwrap_or-slice_get}
use Rattle.akl_terms.specs.declared.term.Seen.{Seen}
use Rattle.akl_terms.specs.Tree.{Tree, Trees, symbol, none, more, list_of}
use Rattle.akl_terms.specs.Equal.{Equations, Equal, turned, joined}
use Rattle.akl_terms.specs.Template.{IsKnown}
use Rattle.answer_text.specs.Printed.{IsFree, IsNumbered, first, here, later}
use Rattle.answer_text.specs.Cyclic.{SameTree, IsCyclic}
use Rattle.answer_text.specs.Graph.{Stands, IsChild}
use Rattle.answer_text.proofs.AnswerThere.{ranked-cyclic}
use Rattle.answer_text.proofs.GraphTrees.{stable-same, fair-same, either_nat}
use Rattle.answer_text.proofs.Respects.{AlikeTrees}
use Rattle.answer_text.proofs.SameTrees.{Same-turned, Same-joined, Same-free, Same-equal', free-self}
use Rattle.term_graph.specs.Building.{seen_tree}
use Rattle.tree_classes.specs.Numbers.{number_in, with_number}
use Rattle.answer_lines.specs.Printing.{Forest, AreKnown, seen_at, row_at, class_of, cyclic_at, forest_graph, IsDecidedForest, IsOfClass, AreOfClasses}

-- what a node begins with is its term
pub node-term : (x : Forest) (i : ℕ) (t : Tree) → Stands (forest_graph x) i t → seen_tree x.template.nodes (seen_at x i) ≡ t
node-term x i t p = from (slice_get x.seens i) refl (sym (slice_get-map (seen_tree x.template.nodes) x.seens i) ∙ p)
  where
    from : (o : Option Seen) → slice_get x.seens i ≡ o → option_map (seen_tree x.template.nodes) o ≡ Some t → seen_tree x.template.nodes (seen_at x i) ≡ t
    from (Some s) e q =
        let z : seen_tree x.template.nodes s ≡ t = (let y : Some (seen_tree x.template.nodes s) ≡ Some t = q in cc) in
        ap (seen_tree x.template.nodes) (get_or_from_slice_get x.seens i s _ e) ∙ z
    from None e q = absurd cc

-- what a node begins with has its symbol
pub known-at : (x : Forest) → AreKnown x → (i : ℕ) → IsKnown x.template (seen_at x i)
known-at x k i = from (slice_get x.seens i) refl
  where
    from : (o : Option Seen) → slice_get x.seens i ≡ o → IsKnown x.template (seen_at x i)
    from (Some s) e = subst (IsKnown x.template) (sym (get_or_from_slice_get x.seens i s (Seen.Int (pos 0)) e)) (k.known i s e)
    from None e =
        let d : Seen = Seen.Int (pos 0) in
        let m : get_or x.seens i d ≡ d = sym (unwrap_or-slice_get x.seens i d) ∙ ap (λ (o : Option Seen). unwrap_or o d) e in
        subst (IsKnown x.template) (sym m) tt

-- a row that has an entry is there
row-there : (rows : List (List ℕ)) (i k j : ℕ) → slice_get (get_or rows i []) k ≡ Some j → slice_get rows i ≡ Some (get_or rows i [])
row-there [] i k j e = absurd (let z : slice_get [] k ≡ Some j = e in cc)
row-there (r ∷ rows) zero k j e = refl
row-there (r ∷ rows) (suc i) k j e = row-there rows i k j e

-- arguments are equal to the terms of the nodes of a row
abbrev pub AreRow : Forest → Equations → Trees → List ℕ → Type 0
AreRow x E none [] = Unit {0}
AreRow x E none (j ∷ js) = ⊥
AreRow x E (more t ts) [] = ⊥
AreRow x E (more t ts) (j ∷ js) = ((u : Tree) × Stands (forest_graph x) j u × Equal E t u) × AreRow x E ts js

rows-match : (x : Forest) (E : Equations) (ts : Trees) (js : List ℕ) → ((k : ℕ) (a : Tree) → slice_get (list_of ts) k ≡ Some a → (j : ℕ) × (slice_get js k ≡ Some j) × (u : Tree) × Stands (forest_graph x) j u × Equal E a u)
    → ((k j : ℕ) → slice_get js k ≡ Some j → (a : Tree) × (slice_get (list_of ts) k ≡ Some a)) → AreRow x E ts js
rows-match x E none [] f g = tt
rows-match x E none (j ∷ js) f g = absurd (let z : (a : Tree) × (slice_get [] zero ≡ Some a) = g zero j refl in let y : None ≡ Some z.0 = z.1 in cc)
rows-match x E (more t ts) [] f g = absurd (let z : (j : ℕ) × (slice_get [] zero ≡ Some j) × (u : Tree) × Stands (forest_graph x) j u × Equal E t u = f zero t refl in let y : None ≡ Some z.0 = z.1 in cc)
rows-match x E (more t ts) (j ∷ js) f g =
    let z : (i : ℕ) × (slice_get (j ∷ js) zero ≡ Some i) × (u : Tree) × Stands (forest_graph x) i u × Equal E t u = f zero t refl in
    let m : z.0 ≡ j = (let y : Some j ≡ Some z.0 = z.1 in cc) in
    ((z.2, subst (λ (i : ℕ). Stands (forest_graph x) i z.2) m z.3, z.4), rows-match x E ts js (λ k a e. f (suc k) a e) (λ k i e. g (suc k) i e))

-- arguments that are equal to others
pub row-alike : (x : Forest) (E : Equations) (ts us : Trees) (js : List ℕ) → AlikeTrees (Equal E) ts us → AreRow x E ts js → AreRow x E us js
row-alike x E none none js a r = r
row-alike x E none (more u us) js a r = absurd a
row-alike x E (more t ts) none js a r = absurd a
row-alike x E (more t ts) (more u us) [] a r = absurd r
row-alike x E (more t ts) (more u us) (j ∷ js) a r = ((r.0.0, r.0.1, joined (turned a.0) r.0.2), row-alike x E ts us js a.1 r.1)

module _ (x : Forest) (E : Equations) (d : IsDecidedForest E x) where
  -- the row of a symbol's node
  pub node-row : (i f : ℕ) (ts : Trees) → Stands (forest_graph x) i (symbol f ts) → AreRow x E ts (row_at x i)
  node-row i f ts p = rows-match x E ts (row_at x i)
      (λ k a e.
      let z : (j : ℕ) × IsChild (forest_graph x) i k j × (u : Tree) × Stands (forest_graph x) j u × Equal E a u = d.decided.graph.argument i k (symbol f ts) a p e in
      (z.0, ap (λ (js : List ℕ). slice_get js k) (get_or_from_slice_get x.rows i z.1.0 [] z.1.1) ∙ z.1.2, z.2, z.3, z.4))
      (λ k j e.
      let z : (a : Tree) × (slice_get (list_of ts) k ≡ Some a) × (u : Tree) × Stands (forest_graph x) j u × Equal E a u = d.decided.graph.child i k j (symbol f ts) p (row_at x i, row-there x.rows i k j e, e) in
      (z.0, z.1))

  pub same-class : (i j : ℕ) (t u : Tree) → Stands (forest_graph x) i t → Stands (forest_graph x) j u → class_of x i ≡ class_of x j → SameTree E t u
  same-class i j t u p q e = stable-same E d.consistent (forest_graph x) (class_of x) d.decided.graph d.decided.stable i j t u p q e

  pub class-same : (i j : ℕ) (t u : Tree) → Stands (forest_graph x) i t → Stands (forest_graph x) j u → SameTree E t u → class_of x i ≡ class_of x j
  class-same i j t u p q e = fair-same E (forest_graph x) (class_of x) d.decided.fair i j t u p q e (either_nat (class_of x i) (class_of x j))

  pub is-cyclic : (i : ℕ) (t : Tree) → Stands (forest_graph x) i t → cyclic_at x i ≡ true → IsCyclic E t
  is-cyclic i t p e = (ranked-cyclic E (forest_graph x) (class_of x) _ (cyclic_at x) d.consistent d.decided.graph d.decided.stable d.decided.fair d.decided.ranked i t p).0 e

  pub not-cyclic : (i : ℕ) (t : Tree) → Stands (forest_graph x) i t → cyclic_at x i ≡ false → IsCyclic E t → ⊥
  not-cyclic i t p e = (ranked-cyclic E (forest_graph x) (class_of x) _ (cyclic_at x) d.consistent d.decided.graph d.decided.stable d.decided.fair d.decided.ranked i t p).1 e

  -- the number of the term of a node, where classes decide what R relates to it
  numbered-of : (R : Tree → Tree → Type 0) → ((s t : Tree) → R s t → R t s) → ((s t u : Tree) → R s t → R t u → R s u) → (i : ℕ) (t : Tree) → Stands (forest_graph x) i t
      → ((j : ℕ) (u : Tree) → Stands (forest_graph x) j u → class_of x i ≡ class_of x j → R t u) → ((j : ℕ) (u : Tree) → Stands (forest_graph x) j u → R t u → class_of x i ≡ class_of x j)
      → {us new : List Tree} {k : ℕ} → IsNumbered R us t k new → (bs : List ℕ) → AreOfClasses x R us bs → (k ≡ number_in bs (class_of x i)) × AreOfClasses x R new (with_number bs (class_of x i))
  numbered-of R back on i t p one other (first e) [] a = (refl, (record { node = i; term = t; stands = p; class = refl; related = e }, tt))
  numbered-of R back on i t p one other (first e) (b ∷ bs) a = absurd a
  numbered-of R back on i t p one other (here e) [] a = absurd a
  numbered-of R back on i t p one other (here {x = u} {seen = us} e) (b ∷ bs) a =
      let z : class_of x i ≡ class_of x a.0.node = other a.0.node a.0.term a.0.stands (on t u a.0.term e (back a.0.term u a.0.related)) in
      let m : nat_eq b (class_of x i) ≡ true = eq-eqb b (class_of x i) (sym (z ∙ a.0.class)) in
      from (nat_eq b (class_of x i)) m
    where
      from : (o : Bool) → o ≡ true → (0 ≡ cond o 0 (suc (number_in bs (class_of x i)))) × AreOfClasses x R (u ∷ us) (cond o (b ∷ bs) (b ∷ with_number bs (class_of x i)))
      from true e = (refl, a)
      from false e = absurd cc
  numbered-of R back on i t p one other (later n m) [] a = absurd a
  numbered-of R back on i t p one other (later {x = u} {seen = us} {new = new} {k = k} n m) (b ∷ bs) a =
      let r : (k ≡ number_in bs (class_of x i)) × AreOfClasses x R new (with_number bs (class_of x i)) = numbered-of R back on i t p one other m bs a.1 in
      from (nat_eq b (class_of x i)) refl r
    where
      from : (o : Bool) → nat_eq b (class_of x i) ≡ o → (k ≡ number_in bs (class_of x i)) × AreOfClasses x R new (with_number bs (class_of x i))
          → (suc k ≡ cond o 0 (suc (number_in bs (class_of x i)))) × AreOfClasses x R (u ∷ new) (cond o (b ∷ bs) (b ∷ with_number bs (class_of x i)))
      from true e r = absurd (n (on t a.0.term u (one a.0.node a.0.term a.0.stands (sym (eqb-true b (class_of x i) e) ∙ sym a.0.class)) a.0.related))
      from false e r = (ap (λ (z : ℕ). suc z) r.0, (a.0, r.1))

  pub numbered-class : (i : ℕ) (t : Tree) → Stands (forest_graph x) i t → IsFree E t → {us new : List Tree} {k : ℕ} → IsNumbered (Equal E) us t k new → (bs : List ℕ) → AreOfClasses x (Equal E) us bs
      → (k ≡ number_in bs (class_of x i)) × AreOfClasses x (Equal E) new (with_number bs (class_of x i))
  numbered-class i t p f m bs a = numbered-of (Equal E) (λ s u e. turned e) (λ s u v e g. joined e g) i t p
      (λ j u q e. Same-free E d.consistent (same-class i j t u p q e) f)
      (λ j u q e. class-same i j t u p q (Same-equal' E d.consistent (turned e) (free-self E d.consistent f)))
      m bs a

  pub numbered-cycle : (i : ℕ) (t : Tree) → Stands (forest_graph x) i t → {us new : List Tree} {k : ℕ} → IsNumbered (SameTree E) us t k new → (bs : List ℕ) → AreOfClasses x (SameTree E) us bs
      → (k ≡ number_in bs (class_of x i)) × AreOfClasses x (SameTree E) new (with_number bs (class_of x i))
  numbered-cycle i t p m bs a = numbered-of (SameTree E) (λ s u e. Same-turned E d.consistent e) (λ s u v e g. Same-joined E d.consistent e g) i t p
      (λ j u q e. same-class i j t u p q e) (λ j u q e. class-same i j t u p q e) m bs a

-- the tree with a number, and the class with it
pub class-at : (x : Forest) (R : Tree → Tree → Type 0) (us : List Tree) (bs : List ℕ) (k b : ℕ) (u : Tree) → AreOfClasses x R us bs → slice_get us k ≡ Some u → slice_get bs k ≡ Some b → IsOfClass x R b u
class-at x R [] bs k b u a e g = absurd cc
class-at x R (v ∷ us) [] k b u a e g = absurd a
class-at x R (v ∷ us) (c ∷ bs) zero b u a e g =
    let m : v ≡ u = (let y : Some v ≡ Some u = e in cc) in
    let o : c ≡ b = (let y : Some c ≡ Some b = g in cc) in
    subst (λ (z : ℕ). IsOfClass x R z u) o (subst (λ (z : Tree). IsOfClass x R c z) m a.0)
class-at x R (v ∷ us) (c ∷ bs) (suc k) b u a e g = class-at x R us bs k b u a.1 e g

pub classes-length : (x : Forest) (R : Tree → Tree → Type 0) (us : List Tree) (bs : List ℕ) → AreOfClasses x R us bs → length us ≡ length bs
classes-length x R [] [] a = refl
classes-length x R [] (b ∷ bs) a = absurd a
classes-length x R (u ∷ us) [] a = absurd a
classes-length x R (u ∷ us) (b ∷ bs) a = ap (λ (n : ℕ). suc n) (classes-length x R us bs a.1)
