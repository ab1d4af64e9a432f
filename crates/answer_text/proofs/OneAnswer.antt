-- Consistent equations and shown terms have at most one text.
use Rattle.std.proofs.Common.{◌≡◌, ℕ, zero, suc, List, [], ◌∷◌, ◌++◌, length, refl, sym, ◌∙◌, ap, subst, inl, inr, arith, Some, None, false}
use Rattle.std.specs.Prelude.{slice_get, codes, bytes_eq}
use Rattle.std.specs.Fmt.{signed_decimal}
use Rattle.akl_terms.specs.Tree.{Tree, Trees, variable, integer, port, symbol, none, more, list_of, Head, integer_head, port_head, symbol_head, head_of, arguments}
use Rattle.akl_terms.specs.Equal.{Equations, Equal, IsTold, turned, joined, IsConsistent}
use Rattle.akl_terms.specs.Solved.{SameIn}
use Rattle.answer_text.specs.SymbolText.{symbol_text, constant_text}
use Rattle.answer_text.specs.Printed.{IsFree, class_text, is_cell}
use Rattle.answer_text.specs.Cyclic.{SameTree, IsCyclic, LeadsTo, goes}
use Rattle.answer_text.specs.AnswerLines.{Numbers, cycle_text, IsLastTail, PrintsTree, class, cycle, plain, WritesTree, number, a_port, constant, compound, cell, PrintsArguments, last, next, PrintsListTail, ends, element, partial, PrintsCycleLines, all_written, cycle_line, PrintsAnswerLines, all_shown, line}
use Rattle.answer_text.specs.Laws.{OneTextLaw}
use Rattle.answer_text.proofs.Respects.{Alike, numbered-one}
use Rattle.answer_text.proofs.Determined.{one_head, one_name}
use Rattle.akl_terms.proofs.Arguments.{same_value, partner}
use Rattle.answer_text.proofs.SameTrees.{Same-turned, Same-joined, Same-heads, Same-arguments, Same-down, Down, headed, Same-free, free-self, cyclic-same, cyclic-structured, free-same}

abbrev Is : ℕ → ℕ → Type 0
Is a b = a ≡ b

pub record AlikeNumbers (E : Equations) (n m : Numbers) : Type 0 where
  pub classes : Alike (Equal E) n.classes m.classes
  pub cycles : Alike (SameTree E) n.cycles m.cycles

abbrev pub AreSameTrees : Equations → Trees → Trees → Type 0
AreSameTrees E ts us = (length (list_of ts) ≡ length (list_of us)) × ((k : ℕ) (a b : Tree) → slice_get (list_of ts) k ≡ Some a → slice_get (list_of us) k ≡ Some b → SameTree E a b)

AreSameTrees-rest : (E : Equations) (t u : Tree) (ts us : Trees) → AreSameTrees E (more t ts) (more u us) → AreSameTrees E ts us
AreSameTrees-rest E t u ts us a = (omega (arith, a.0), λ k x y p q. a.1 (suc k) x y p q)

pub Alike-length : (R : Tree → Tree → Type 0) (xs ys : List Tree) → Alike R xs ys → length xs ≡ length ys
Alike-length R [] [] a = refl
Alike-length R [] (y ∷ ys) a = absurd a
Alike-length R (x ∷ xs) [] a = absurd a
Alike-length R (x ∷ xs) (y ∷ ys) a = ap suc (Alike-length R xs ys a.1)

Alike-at : (R : Tree → Tree → Type 0) (xs ys : List Tree) (k : ℕ) (a b : Tree) → Alike R xs ys → slice_get xs k ≡ Some a → slice_get ys k ≡ Some b → R a b
Alike-at R [] ys k a b l p q = cc
Alike-at R (x ∷ xs) [] k a b l p q = absurd l
Alike-at R (x ∷ xs) (y ∷ ys) zero a b l p q =
    let ex : x ≡ a = cc in
    let ey : y ≡ b = cc in subst (λ (z : Tree). R z b) ex (subst (λ (z : Tree). R x z) ey l.0)
Alike-at R (x ∷ xs) (y ∷ ys) (suc k) a b l p q = Alike-at R xs ys k a b l.1 p q

pub no-place : (xs : List Tree) (a : Tree) → slice_get xs (length xs) ≡ Some a → ⊥
no-place [] a e = cc
no-place (x ∷ xs) a e = no-place xs a e

-- the symbol of a term written with arguments is no list cell where its name says so
pub not-cell : (symbols : List (List ℕ)) (f g : ℕ) (name : List ℕ) (t : Tree) (ts : Trees) → is_cell name (more t ts) ≡ false → slice_get symbols f ≡ Some name → slice_get symbols g ≡ Some (codes ".")
    → symbol_head f (length (list_of (more t ts))) ≡ symbol_head g 2 → ⊥
not-cell symbols f g name t none n i j h = absurd (let l : Is (1) (2) = cc in omega (arith, l))
not-cell symbols f g name t (more u none) n i j h =
    let fg : f ≡ g = cc in
    let e : Some name ≡ Some (codes ".") = sym i ∙ ap (slice_get symbols) fg ∙ j in
    let m : name ≡ codes "." = cc in
    let z : bytes_eq (codes ".") (codes ".") ≡ false = subst (λ (x : List ℕ). bytes_eq x (codes ".") ≡ false) m n in absurd cc
not-cell symbols f g name t (more u (more v vs)) n i j h = absurd (let l : Is (suc (suc (suc (length (list_of vs))))) (2) = cc in omega (arith, l))

-- a term by its head
no_arguments : (w : Tree) (f : ℕ) → head_of w ≡ Some (symbol_head f 0) → (g : ℕ) × (w ≡ symbol g none) × (g ≡ f)
no_arguments (variable x) f h = cc
no_arguments (integer z) f h = cc
no_arguments (port p) f h = cc
no_arguments (symbol g none) f h = (g, refl, cc)
no_arguments (symbol g (more a bs)) f h = absurd (let l : Is (suc (length (list_of bs))) (0) = cc in omega (arith, l))

two_arguments : (w : Tree) (f : ℕ) → head_of w ≡ Some (symbol_head f 2) → (g : ℕ) × (a b : Tree) × (w ≡ symbol g (more a (more b none))) × (g ≡ f)
two_arguments (variable x) f h = cc
two_arguments (integer z) f h = cc
two_arguments (port p) f h = cc
two_arguments (symbol g none) f h = absurd (let l : Is (0) (2) = cc in omega (arith, l))
two_arguments (symbol g (more a none)) f h = absurd (let l : Is (1) (2) = cc in omega (arith, l))
two_arguments (symbol g (more a (more b none))) f h = (g, a, b, refl, cc)
two_arguments (symbol g (more a (more b (more d ds)))) f h = absurd (let l : Is (suc (suc (suc (length (list_of ds))))) (2) = cc in omega (arith, l))

module _ (symbols : List (List ℕ)) (E : Equations) (c : IsConsistent E) where
  end-leads : {ks : List ℕ} {k f : ℕ} {s t : Tree} → LeadsTo E (k ∷ ks) s t → Equal E s (symbol f none) → ⊥
  end-leads {f = f} (goes {u = u} {a = a} k p i l) e =
      let h : (h : Head) × (head_of u ≡ Some h) = headed u k a i in
      let hh : h.0 ≡ symbol_head f 0 = one_head E c _ _ _ _ _ p e h.1 refl in
      let w : (b : Tree) × (slice_get [] k ≡ Some b) = partner u (symbol f none) h.0 k a h.1 (ap Some (sym hh)) i in
      absurd (let z : None ≡ Some w.0 = w.1 in cc)

  pub end-cyclic : {s : Tree} {f : ℕ} → IsCyclic E s → Equal E s (symbol f none) → ⊥
  end-cyclic y e = end-leads y.leads e

  -- heads of what two same trees are equal to
  heads : {s s' : Tree} (u v : Tree) {g h : Head} → SameTree E s s' → Equal E s u → Equal E s' v → head_of u ≡ Some g → head_of v ≡ Some h → g ≡ h
  heads u v m p q x y = Same-heads E c {u = u} {v = v} m p q x y

  pub alike-arguments : {s s' : Tree} {f g : ℕ} (ts us : Trees) → SameTree E s s' → Equal E s (symbol f ts) → Equal E s' (symbol g us) → AreSameTrees E ts us
  alike-arguments {f = f} {g = g} ts us m p q =
      let h : symbol_head f (length (list_of ts)) ≡ symbol_head g (length (list_of us)) = heads (symbol f ts) (symbol g us) m p q refl refl in
      (cc, λ k a b i j. Same-arguments E c {u = symbol f ts} {v = symbol g us} k m p q refl refl i j)

  -- a tree that is written out is no unstructured class
  pub writes-structured : {n m : Numbers} {s : Tree} {text : List ℕ} → WritesTree symbols E n s text m → IsFree E s → ⊥
  writes-structured (number {z = z} e) f = f.free (integer z) (integer_head z) e refl
  writes-structured (a_port {p = p} e) f = f.free (port p) (port_head p) e refl
  writes-structured (constant {f = g} e i) f = f.free (symbol g none) (symbol_head g 0) e refl
  writes-structured (compound {t = t} {ts = ts} {f = g} e i b p) f = f.free (symbol g (more t ts)) (symbol_head g (length (list_of (more t ts)))) e refl
  writes-structured (cell {t = t} {u = u} {f = g} e i p q) f = f.free (symbol g (more t (more u none))) (symbol_head g 2) e refl

  pub end-other : {s s' : Tree} {f : ℕ} → SameTree E s s' → Equal E s (symbol f none) → slice_get symbols f ≡ Some (codes "[]") → IsLastTail symbols E s' → ⊥
  end-other {s} {s'} m e i (inr y) = end-cyclic (cyclic-same E c (Same-turned E c m) y) e
  end-other {s} {s'} {f} m e i (inl o) =
      let d : Down E c _ _ (symbol f none) (symbol_head f 0) = Same-down E c m e refl in
      let w : (g : ℕ) × (d.other ≡ symbol g none) × (g ≡ f) = no_arguments d.other f d.head in
      o.other w.0 none (subst (λ (x : Tree). Equal E s' x) w.1 d.equal) (ap (slice_get symbols) w.2 ∙ i)

  pub last-other : {s s' t u : Tree} {f : ℕ} → SameTree E s s' → (IsCyclic E s → ⊥) → Equal E s (symbol f (more t (more u none))) → slice_get symbols f ≡ Some (codes ".") → IsLastTail symbols E s' → ⊥
  last-other {s} {s'} m n e i (inr y) = n (cyclic-same E c (Same-turned E c m) y)
  last-other {s} {s'} {t} {u} {f} m n e i (inl o) =
      let d : Down E c _ _ (symbol f (more t (more u none))) (symbol_head f 2) = Same-down E c m e refl in
      let w : (g : ℕ) × (a b : Tree) × (d.other ≡ symbol g (more a (more b none))) × (g ≡ f) = two_arguments d.other f d.head in
      o.other w.0 (more w.1 (more w.2 none)) (subst (λ (x : Tree). Equal E s' x) w.3 d.equal) (ap (slice_get symbols) w.4 ∙ i)

  pair-self : {t u : Tree} → SameTree E t t → SameTree E u u → (k : ℕ) (a : Tree) → slice_get (t ∷ u ∷ []) k ≡ Some a → SameTree E a a
  pair-self {t} {u} p q zero a i = let e : t ≡ a = cc in subst (λ (z : Tree). SameTree E z z) e p
  pair-self {t} {u} p q (suc zero) a i = let e : u ≡ a = cc in subst (λ (z : Tree). SameTree E z z) e q
  pair-self p q (suc (suc k)) a i = cc

  mutual
    pub prints-one : {n n' m m' : Numbers} {s s' : Tree} {text text' : List ℕ} → PrintsTree symbols E n s text m → PrintsTree symbols E n' s' text' m' → AlikeNumbers E n n' → SameTree E s s'
        → (text ≡ text') × AlikeNumbers E m m'
    prints-one (class f k) (class f' k') a q =
        let r : (_ ≡ _) × Alike (Equal E) _ _ = numbered-one (Equal E) (λ x y e. turned e) (λ x y z e g. joined e g) k k' a.classes (Same-free E c q f) in (ap class_text r.0, record { classes = r.1; cycles = a.cycles })
    prints-one (class f k) (cycle y k') a q = absurd (cyclic-structured E c y (free-same E c q f))
    prints-one (class f k) (plain y w) a q = absurd (writes-structured w (free-same E c q f))
    prints-one (cycle y k) (class f k') a q = absurd (cyclic-structured E c y (free-same E c (Same-turned E c q) f))
    prints-one (cycle y k) (cycle y' k') a q =
        let r : (_ ≡ _) × Alike (SameTree E) _ _ = numbered-one (SameTree E) (λ x y m. Same-turned E c m) (λ x y z l m. Same-joined E c l m) k k' a.cycles q in (ap cycle_text r.0, record { classes = a.classes; cycles = r.1 })
    prints-one (cycle y k) (plain y' w) a q = absurd (y' (cyclic-same E c q y))
    prints-one (plain y w) (class f k) a q = absurd (writes-structured w (free-same E c (Same-turned E c q) f))
    prints-one (plain y w) (cycle y' k) a q = absurd (y (cyclic-same E c (Same-turned E c q) y'))
    prints-one (plain y w) (plain y' w') a q = writes-one w w' a q

    pub writes-one : {n n' m m' : Numbers} {s s' : Tree} {text text' : List ℕ} → WritesTree symbols E n s text m → WritesTree symbols E n' s' text' m' → AlikeNumbers E n n' → SameTree E s s'
        → (text ≡ text') × AlikeNumbers E m m'
    writes-one (number {z = z} e) (number {z = y} e') a q = let h : integer_head z ≡ integer_head y = heads (integer z) (integer y) q e e' refl refl in (ap signed_decimal cc, a)
    writes-one (number {z = z} e) (a_port {p = p} e') a q = let h : integer_head z ≡ port_head p = heads (integer z) (port p) q e e' refl refl in absurd cc
    writes-one (number {z = z} e) (constant {f = g} e' i) a q = let h : integer_head z ≡ symbol_head g 0 = heads (integer z) (symbol g none) q e e' refl refl in absurd cc
    writes-one (number {z = z} e) (compound {t = t} {ts = ts} {f = g} e' i b p) a q = let h : integer_head z ≡ symbol_head g (length (list_of (more t ts))) = heads (integer z) (symbol g (more t ts)) q e e' refl refl in absurd cc
    writes-one (number {z = z} e) (cell {t = t} {u = u} {f = g} e' i p r) a q = let h : integer_head z ≡ symbol_head g 2 = heads (integer z) (symbol g (more t (more u none))) q e e' refl refl in absurd cc
    writes-one (a_port {p = y} e) (number {z = z} e') a q = let h : port_head y ≡ integer_head z = heads (port y) (integer z) q e e' refl refl in absurd cc
    writes-one (a_port e) (a_port e') a q = (refl, a)
    writes-one (a_port {p = y} e) (constant {f = g} e' i) a q = let h : port_head y ≡ symbol_head g 0 = heads (port y) (symbol g none) q e e' refl refl in absurd cc
    writes-one (a_port {p = y} e) (compound {t = t} {ts = ts} {f = g} e' i b p) a q = let h : port_head y ≡ symbol_head g (length (list_of (more t ts))) = heads (port y) (symbol g (more t ts)) q e e' refl refl in absurd cc
    writes-one (a_port {p = y} e) (cell {t = t} {u = u} {f = g} e' i p r) a q = let h : port_head y ≡ symbol_head g 2 = heads (port y) (symbol g (more t (more u none))) q e e' refl refl in absurd cc
    writes-one (constant {f = f} e j) (number {z = z} e') a q = let h : symbol_head f 0 ≡ integer_head z = heads (symbol f none) (integer z) q e e' refl refl in absurd cc
    writes-one (constant {f = f} e j) (a_port {p = p} e') a q = let h : symbol_head f 0 ≡ port_head p = heads (symbol f none) (port p) q e e' refl refl in absurd cc
    writes-one (constant {f = f} {name = y} e j) (constant {f = g} {name = y'} e' i) a q =
        let h : symbol_head f 0 ≡ symbol_head g 0 = heads (symbol f none) (symbol g none) q e e' refl refl in
        let fg : f ≡ g = cc in
        let k : y ≡ y' = one_name symbols f g y y' fg j i in (ap constant_text k, a)
    writes-one (constant {f = f} e j) (compound {t = t} {ts = ts} {f = g} e' i b p) a q = let h : symbol_head f 0 ≡ symbol_head g (length (list_of (more t ts))) = heads (symbol f none) (symbol g (more t ts)) q e e' refl refl in absurd (let l : Is (0) (suc (length (list_of ts))) = cc in omega (arith, l))
    writes-one (constant {f = f} e j) (cell {t = t} {u = u} {f = g} e' i p r) a q = let h : symbol_head f 0 ≡ symbol_head g 2 = heads (symbol f none) (symbol g (more t (more u none))) q e e' refl refl in absurd (let l : Is (0) (2) = cc in omega (arith, l))
    writes-one (compound {t = v} {ts = vs} {f = f} e j d r) (number {z = z} e') a q = let h : symbol_head f (length (list_of (more v vs))) ≡ integer_head z = heads (symbol f (more v vs)) (integer z) q e e' refl refl in absurd cc
    writes-one (compound {t = v} {ts = vs} {f = f} e j d r) (a_port {p = p} e') a q = let h : symbol_head f (length (list_of (more v vs))) ≡ port_head p = heads (symbol f (more v vs)) (port p) q e e' refl refl in absurd cc
    writes-one (compound {t = v} {ts = vs} {f = f} e j d r) (constant {f = g} e' i) a q = let h : symbol_head f (length (list_of (more v vs))) ≡ symbol_head g 0 = heads (symbol f (more v vs)) (symbol g none) q e e' refl refl in absurd (let l : Is (suc (length (list_of vs))) (0) = cc in omega (arith, l))
    writes-one (compound {t = v} {ts = vs} {f = f} {name = y} {text = x} e j d r) (compound {t = t} {ts = ts} {f = g} {name = y'} {text = x'} e' i b p) a q =
        let h : symbol_head f (length (list_of (more v vs))) ≡ symbol_head g (length (list_of (more t ts))) = heads (symbol f (more v vs)) (symbol g (more t ts)) q e e' refl refl in
        let fg : f ≡ g = cc in
        let k : y ≡ y' = one_name symbols f g y y' fg j i in
        let w : (x ≡ x') × AlikeNumbers E _ _ = all-one r p a (alike-arguments (more v vs) (more t ts) q e e') in
        (λ z. symbol_text (k z) ++ 40 ∷ w.0 z ++ 41 ∷ [], w.1)
    writes-one (compound {t = v} {ts = vs} {f = f} e j d r) (cell {t = t} {u = u} {f = g} e' i p z) a q = absurd (not-cell symbols f g _ v vs d j i (heads (symbol f (more v vs)) (symbol g (more t (more u none))) q e e' refl refl))
    writes-one (cell {t = v} {u = w} {f = f} e j r y) (number {z = z} e') a q = let h : symbol_head f 2 ≡ integer_head z = heads (symbol f (more v (more w none))) (integer z) q e e' refl refl in absurd cc
    writes-one (cell {t = v} {u = w} {f = f} e j r y) (a_port {p = p} e') a q = let h : symbol_head f 2 ≡ port_head p = heads (symbol f (more v (more w none))) (port p) q e e' refl refl in absurd cc
    writes-one (cell {t = v} {u = w} {f = f} e j r y) (constant {f = g} e' i) a q = let h : symbol_head f 2 ≡ symbol_head g 0 = heads (symbol f (more v (more w none))) (symbol g none) q e e' refl refl in absurd (let l : Is (2) (0) = cc in omega (arith, l))
    writes-one (cell {t = v} {u = w} {f = f} e j r y) (compound {t = t} {ts = ts} {f = g} e' i b p) a q = absurd (not-cell symbols g f _ t ts b i j (sym (heads (symbol f (more v (more w none))) (symbol g (more t ts)) q e e' refl refl)))
    writes-one (cell {t = v} {u = w} {f = f} {head = x} {rest = y} e j r z) (cell {t = t} {u = u} {f = g} {head = x'} {rest = y'} e' i p l) a q =
        let k : AreSameTrees E (more v (more w none)) (more t (more u none)) = alike-arguments (more v (more w none)) (more t (more u none)) q e e' in
        let b : (x ≡ x') × AlikeNumbers E _ _ = prints-one r p a (k.1 0 v t refl refl) in
        let d : (y ≡ y') × AlikeNumbers E _ _ = tail-one z l b.1 (k.1 1 w u refl refl) in
        (λ o. 91 ∷ b.0 o ++ d.0 o, d.1)

    all-one : {n n' m m' : Numbers} {ts us : Trees} {text text' : List ℕ} → PrintsArguments symbols E n ts text m → PrintsArguments symbols E n' us text' m' → AlikeNumbers E n n' → AreSameTrees E ts us
        → (text ≡ text') × AlikeNumbers E m m'
    all-one (last {t = t} p) (last {t = u} p') a q = prints-one p p' a (q.1 0 t u refl refl)
    all-one (last {t = t} p) (next {t = u} {u = v} {ts = us} p' ps') a q = absurd (let l : Is (1) (suc (suc (length (list_of us)))) = q.0 in omega (arith, l))
    all-one (next {t = u} {u = v} {ts = us} p ps) (last p') a q = absurd (let l : Is (suc (suc (length (list_of us)))) (1) = q.0 in omega (arith, l))
    all-one (next {t = t} {u = u} {ts = ts} {text = x} {others = y} p ps) (next {t = t'} {u = u'} {ts = ts'} {text = x'} {others = y'} p' ps') a q =
        let b : (x ≡ x') × AlikeNumbers E _ _ = prints-one p p' a (q.1 0 t t' refl refl) in
        let d : (y ≡ y') × AlikeNumbers E _ _ = all-one ps ps' b.1 (AreSameTrees-rest E t t' (more u ts) (more u' ts') q) in
        (λ o. b.0 o ++ 44 ∷ d.0 o, d.1)

    pub tail-one : {n n' m m' : Numbers} {s s' : Tree} {text text' : List ℕ} → PrintsListTail symbols E n s text m → PrintsListTail symbols E n' s' text' m' → AlikeNumbers E n n' → SameTree E s s'
        → (text ≡ text') × AlikeNumbers E m m'
    tail-one (ends e i) (ends e' i') a q = (refl, a)
    tail-one (ends {f = f} e i) (element {t = t} {u = u} {f = g} y e' i' p r) a q = let h : symbol_head f 0 ≡ symbol_head g 2 = heads (symbol f none) (symbol g (more t (more u none))) q e e' refl refl in absurd (let l : Is (0) (2) = cc in omega (arith, l))
    tail-one (ends e i) (partial o p) a q = absurd (end-other q e i o)
    tail-one (element {t = t} {u = u} {f = g} y e' i' p r) (ends {f = f} e i) a q = let h : symbol_head g 2 ≡ symbol_head f 0 = heads (symbol g (more t (more u none))) (symbol f none) q e' e refl refl in absurd (let l : Is (2) (0) = cc in omega (arith, l))
    tail-one (element {t = v} {u = w} {f = f} {head = x} {rest = y} n e j r z) (element {t = t} {u = u} {f = g} {head = x'} {rest = y'} n' e' i p l) a q =
        let k : AreSameTrees E (more v (more w none)) (more t (more u none)) = alike-arguments (more v (more w none)) (more t (more u none)) q e e' in
        let b : (x ≡ x') × AlikeNumbers E _ _ = prints-one r p a (k.1 0 v t refl refl) in
        let d : (y ≡ y') × AlikeNumbers E _ _ = tail-one z l b.1 (k.1 1 w u refl refl) in
        (λ o. 44 ∷ b.0 o ++ d.0 o, d.1)
    tail-one (element n e i p r) (partial o p') a q = absurd (last-other q n e i o)
    tail-one (partial o p) (ends e i) a q = absurd (end-other (Same-turned E c q) e i o)
    tail-one (partial o p') (element n e i p r) a q = absurd (last-other (Same-turned E c q) n e i o)
    tail-one (partial {text = x} o p) (partial {text = x'} o' p') a q =
        let b : (x ≡ x') × AlikeNumbers E _ _ = prints-one p p' a q in (ap (λ (y : List ℕ). 124 ∷ y ++ 93 ∷ []) b.0, b.1)

  -- a tree that is printed is the same as itself
  from-one : {s u : Tree} {h : Head} → Equal E s u → head_of u ≡ Some h → ((k : ℕ) (a : Tree) → slice_get (arguments u) k ≡ Some a → SameTree E a a) → SameTree E s s
  from-one e i f zero = tt
  from-one {u = u} {h = h} e i f (suc n) = inr (u, u, h, e, e, i, i, λ k a b p q. let ab : a ≡ b = same_value p q in subst (λ (z : Tree). SameIn (IsTold E) n a z) ab (f k a p n))

  mutual
    prints-self : {n m : Numbers} {s : Tree} {text : List ℕ} → PrintsTree symbols E n s text m → SameTree E s s
    prints-self (class f k) = free-self E c f
    prints-self (cycle y k) = Same-joined E c y.again (Same-turned E c y.again)
    prints-self (plain y w) = writes-self w

    writes-self : {n m : Numbers} {s : Tree} {text : List ℕ} → WritesTree symbols E n s text m → SameTree E s s
    writes-self (number {z = z} e) = from-one {u = integer z} e refl (λ k a p. cc)
    writes-self (a_port {p = i} e) = from-one {u = port i} e refl (λ k a p. cc)
    writes-self (constant {f = f} e i) = from-one {u = symbol f none} e refl (λ k a p. cc)
    writes-self (compound {t = t} {ts = ts} {f = f} e i b p) = from-one {u = symbol f (more t ts)} e refl (λ k a q. all-self p k a q)
    writes-self (cell {t = t} {u = u} {f = f} e i p r) = from-one {u = symbol f (more t (more u none))} e refl (λ k a q. pair-self (prints-self p) (tail-self r) k a q)

    all-self : {n m : Numbers} {ts : Trees} {text : List ℕ} → PrintsArguments symbols E n ts text m → (k : ℕ) (a : Tree) → slice_get (list_of ts) k ≡ Some a → SameTree E a a
    all-self (last {t = t} p) zero a q = let e : t ≡ a = cc in subst (λ (z : Tree). SameTree E z z) e (prints-self p)
    all-self (last p) (suc k) a q = cc
    all-self (next {t = t} p ps) zero a q = let e : t ≡ a = cc in subst (λ (z : Tree). SameTree E z z) e (prints-self p)
    all-self (next p ps) (suc k) a q = all-self ps k a q

    tail-self : {n m : Numbers} {s : Tree} {text : List ℕ} → PrintsListTail symbols E n s text m → SameTree E s s
    tail-self (ends {f = f} e i) = from-one {u = symbol f none} e refl (λ k a p. cc)
    tail-self (element {t = t} {u = u} {f = f} y e i p r) = from-one {u = symbol f (more t (more u none))} e refl (λ k a q. pair-self (prints-self p) (tail-self r) k a q)
    tail-self (partial o p) = prints-self p

  cycles-one : {k : ℕ} {n n' : Numbers} {x y : List ℕ} → PrintsCycleLines symbols E k n x → PrintsCycleLines symbols E k n' y → AlikeNumbers E n n' → x ≡ y
  cycles-one (all_written e) (all_written e') a = refl
  cycles-one {n = n} {n' = n'} (all_written e) (cycle_line {s = s} i w r) a = absurd (no-place n'.cycles s (subst (λ (j : ℕ). slice_get n'.cycles j ≡ Some s) (e ∙ Alike-length (SameTree E) n.cycles n'.cycles a.cycles) i))
  cycles-one {n = n} {n' = n'} (cycle_line {s = s} i w r) (all_written e) a = absurd (no-place n.cycles s (subst (λ (j : ℕ). slice_get n.cycles j ≡ Some s) (e ∙ sym (Alike-length (SameTree E) n.cycles n'.cycles a.cycles)) i))
  cycles-one {k = k} {n = n} {n' = n'} (cycle_line {s = s} {text = x} {others = y} i w r) (cycle_line {s = s'} {text = x'} {others = y'} i' w' r') a =
      let b : (x ≡ x') × AlikeNumbers E _ _ = writes-one w w' a (Alike-at (SameTree E) n.cycles n'.cycles k s s' a.cycles i i') in
      let d : y ≡ y' = cycles-one r r' b.1 in
      λ o. cycle_text k ++ codes " = " ++ b.0 o ++ 10 ∷ d o

  answer-one : {n n' : Numbers} {shown : List (List ℕ × Tree)} {x y : List ℕ} → PrintsAnswerLines symbols E n shown x → PrintsAnswerLines symbols E n' shown y → AlikeNumbers E n n' → x ≡ y
  answer-one (all_shown p) (all_shown q) a = cycles-one p q a
  answer-one (line {name = name} {text = x} {others = y} {t = t} p r) (line {text = x'} {others = y'} p' r') a =
      let b : (x ≡ x') × AlikeNumbers E _ _ = prints-one p p' a (prints-self p) in
      let d : y ≡ y' = answer-one r r' b.1 in
      λ o. name ++ codes " = " ++ b.0 o ++ 10 ∷ d o

pub one_text : OneTextLaw
one_text symbols E shown text other c p q = answer-one symbols E c p q (record { classes = tt; cycles = tt })
