-- Equations that stand for others give the lines that these give, with the same names of cyclic trees.
use Rattle.std.proofs.Common.{◌≡◌, ℕ, zero, suc, List, [], ◌∷◌, ◌++◌, length, Some, false, refl, sym, ◌∙◌, ap, subst, inl, inr}
use Rattle.std.specs.Prelude.{slice_get}
use Rattle.akl_terms.specs.Tree.{Tree, Trees, integer, port, symbol, none, more, Head, head_of, integer_head, port_head, arguments}
use Rattle.akl_terms.specs.Equal.{Equations, Equal, IsTold, IsConsistent}
use Rattle.akl_terms.specs.Standing.{StandFor}
use Rattle.akl_terms.proofs.Arguments.{partner}
use Rattle.akl_terms.proofs.StandingLaws.{StandFor-back}
use Rattle.constraint_laws.proofs.ValuesGrow.{integer_of, port_of}
use Rattle.answer_text.specs.SymbolText.{symbol_text}
use Rattle.answer_text.specs.Printed.{IsNumbered, first, here, later, is_cell}
use Rattle.answer_text.specs.Cyclic.{SameTree, LeadsTo, stays, goes, IsCyclic}
use Rattle.answer_text.specs.AnswerLines.{Numbers, IsLastTail, PrintsTree, class, cycle, plain, WritesTree, number, a_port, constant, compound, cell, PrintsArguments, last, next, PrintsListTail, ends, element, partial, PrintsCycleLines, all_written, cycle_line, PrintsAnswerLines, all_shown, line}
use Rattle.answer_text.specs.Laws.{LinesStandLaw}
use Rattle.answer_text.proofs.Respects.{Alike, AlikeTrees, Counterpart, Corresponds, IsSymbol, IsPair, numbered-there, symbol-there, pair_by, no_others, is_cell-alike}
use Rattle.answer_text.proofs.OneAnswer.{Alike-length}
use Rattle.answer_text.proofs.SameTrees.{headed, Same-turned, Same-joined}
use Rattle.answer_text.proofs.TextsStand.{headed-there, stands-correspond}

-- the place of a tree has the related one
pub Alike-place : (R : Tree → Tree → Type 0) (xs ys : List Tree) (k : ℕ) (x : Tree) → Alike R xs ys → slice_get xs k ≡ Some x → (y : Tree) × (slice_get ys k ≡ Some y) × R x y
Alike-place R [] ys k x a e = cc
Alike-place R (z ∷ xs) [] k x a e = absurd a
Alike-place R (z ∷ xs) (y ∷ ys) zero x a e = let m : z ≡ x = cc in (y, refl, subst (λ (v : Tree). R v y) m a.0)
Alike-place R (z ∷ xs) (y ∷ ys) (suc k) x a e = Alike-place R xs ys k x a.1 e

-- the same positions lead to the same subtree under equations that stand for these
leads-there : (symbols : List (List ℕ)) (E F : Equations) (w : StandFor (IsTold E) (IsTold F)) (c : IsConsistent E) → {ks : List ℕ} {s s' t : Tree} → SameTree F s s' → LeadsTo E ks s t → (t' : Tree) × LeadsTo F ks s' t' × SameTree F t t'
leads-there symbols E F w c {s' = s'} m stays = (s', stays, m)
leads-there symbols E F w c {s = s} {s' = s'} m (goes {u = u} {a = a} k p i l) =
    let h : (h : Head) × (head_of u ≡ Some h) = headed u k a i in
    let d : Counterpart F (SameTree F) u s' h.0 = headed-there symbols E F w c s s' u h.0 m p h.1 in
    let b : (b : Tree) × (slice_get (arguments d.other) k ≡ Some b) = partner u d.other h.0 k a h.1 d.head i in
    let r : (t' : Tree) × LeadsTo F _ b.0 t' × SameTree F _ t' = leads-there symbols E F w c (d.each k a b.0 i b.1) l in
    (r.0, goes k d.equal b.1 r.1, r.2)

pub cyclic-there : (symbols : List (List ℕ)) (E F : Equations) (w : StandFor (IsTold E) (IsTold F)) (c : IsConsistent E) → {s s' : Tree} → SameTree F s s' → IsCyclic E s → IsCyclic F s'
cyclic-there symbols E F w c {s = s} m y =
    let r : (t' : Tree) × LeadsTo F _ _ t' × SameTree F y.met t' = leads-there symbols E F w c m y.leads in
    record { at = y.at; below = y.below; met = r.0; leads = r.1; again = Same-joined F (w.to c) (Same-turned F (w.to c) m) (Same-joined F (w.to c) (w.same_to c s y.met y.again) r.2) }

module _ (symbols : List (List ℕ)) (E F : Equations) (w : StandFor (IsTold E) (IsTold F)) (c : IsConsistent E) where
  abbrev S : Tree → Tree → Type 0
  S = SameTree F

  m : Corresponds symbols E F S
  m = stands-correspond symbols E F w c

  pub record AreAlike (n n' : Numbers) : Type 0 where
    pub classes : Alike S n.classes n'.classes
    pub cycles : Alike S n.cycles n'.cycles

  cyclic-back : {s t : Tree} → S s t → IsCyclic F t → IsCyclic E s
  cyclic-back {s} {t} q y = cyclic-there symbols F E (StandFor-back w) (w.to c) (w.same_back c t s (Same-turned F (w.to c) q)) y

  cycle-there : (seen new seen' : List Tree) (s t : Tree) (k : ℕ) → IsNumbered (SameTree E) seen s k new → Alike S seen seen' → S s t → (new' : List Tree) × IsNumbered S seen' t k new' × Alike S new new'
  cycle-there [] new [] s t k (first {x = x} e) a q = (t ∷ [], first (m.itself t), (Same-joined F (w.to c) (Same-turned F (w.to c) (w.same_to c s x e)) q, tt))
  cycle-there [] new (y ∷ ys) s t k (first e) a q = absurd a
  cycle-there (x ∷ xs) new [] s t k (here e) a q = absurd a
  cycle-there (x ∷ xs) new (y ∷ ys) s t k (here e) a q = (y ∷ ys, here (Same-joined F (w.to c) (Same-turned F (w.to c) q) (Same-joined F (w.to c) (w.same_to c s x e) a.0)), a)
  cycle-there (x ∷ xs) new [] s t k (later n d) a q = absurd a
  cycle-there (x ∷ xs) new (y ∷ ys) s t k (later n d) a q =
      let r : (new' : List Tree) × IsNumbered S ys t _ new' × Alike S _ new' = cycle-there xs _ ys s t _ d a.1 q in
      (y ∷ r.0, later (λ e. n (w.same_back c s x (Same-joined F (w.to c) q (Same-joined F (w.to c) e (Same-turned F (w.to c) a.0))))) r.1, (a.0, r.2))

  last-there : {s t : Tree} → S s t → IsLastTail symbols E s → IsLastTail symbols F t
  last-there {s} {t} q (inl o) = inl (m.other s t q o)
  last-there q (inr y) = inr (cyclic-there symbols E F w c q y)

  compound-written : {n k : Numbers} {s : Tree} (u : Tree) (f : ℕ) (name text : List ℕ) (ts us : Trees) → AlikeTrees S (more u ts) us → Equal F s (symbol f us) → slice_get symbols f ≡ Some name
      → is_cell name (more u ts) ≡ false → PrintsArguments symbols F n us text k → WritesTree symbols F n s (symbol_text name ++ 40 ∷ text ++ 41 ∷ []) k
  compound-written u f name text ts none a e i b p = absurd a
  compound-written u f name text ts (more v vs) a e i b p = compound e i (sym (is_cell-alike S name (more u ts) (more v vs) a) ∙ b) p

  mutual
    pub tree-there : {n k n' : Numbers} {s t : Tree} {text : List ℕ} → PrintsTree symbols E n s text k → AreAlike n n' → S s t → (k' : Numbers) × PrintsTree symbols F n' t text k' × AreAlike k k'
    tree-there {n} {k} {n'} {s} {t} (class {new = new} f d) a q =
        let r : (new' : List Tree) × IsNumbered (Equal F) n'.classes t _ new' × Alike S new new' = numbered-there symbols E F S m n.classes new n'.classes s t _ f d a.classes q in
        (record n' { classes = r.0 }, class (m.free s t q f) r.1, record { classes = r.2; cycles = a.cycles })
    tree-there {n} {k} {n'} {s} {t} (cycle {new = new} y d) a q =
        let r : (new' : List Tree) × IsNumbered S n'.cycles t _ new' × Alike S new new' = cycle-there n.cycles new n'.cycles s t _ d a.cycles q in
        (record n' { cycles = r.0 }, cycle (cyclic-there symbols E F w c q y) r.1, record { classes = a.classes; cycles = r.2 })
    tree-there {k = k} {n' = n'} {t = t} (plain y p) a q =
        let r : (k' : Numbers) × WritesTree symbols F n' t _ k' × AreAlike k k' = writes-there p a q in (r.0, plain (λ z. y (cyclic-back q z)) r.1, r.2)

    pub writes-there : {n k n' : Numbers} {s t : Tree} {text : List ℕ} → WritesTree symbols E n s text k → AreAlike n n' → S s t → (k' : Numbers) × WritesTree symbols F n' t text k' × AreAlike k k'
    writes-there {n' = n'} {s = s} {t = t} (number {z = z} e) a q =
        let v : Counterpart F S (integer z) t (integer_head z) = m.headed s t (integer z) (integer_head z) q e refl in
        (n', number (subst (λ (x : Tree). Equal F t x) (integer_of v.other z v.head) v.equal), a)
    writes-there {n' = n'} {s = s} {t = t} (a_port {p = p} e) a q =
        let v : Counterpart F S (port p) t (port_head p) = m.headed s t (port p) (port_head p) q e refl in
        (n', a_port (subst (λ (x : Tree). Equal F t x) (port_of v.other p v.head) v.equal), a)
    writes-there {n' = n'} {s = s} {t = t} (constant {f = f} e i) a q =
        let v : IsSymbol F S t f none = symbol-there symbols E F S m s t f none q e in
        (n', constant (subst (λ (us : Trees). Equal F t (symbol f us)) (no_others S v.arguments v.alike) v.equal) i, a)
    writes-there {k = k} {n' = n'} {s = s} {t = t} (compound {t = u} {ts = ts} {f = f} {name = name} e i b p) a q =
        let v : IsSymbol F S t f (more u ts) = symbol-there symbols E F S m s t f (more u ts) q e in
        let r : (k' : Numbers) × PrintsArguments symbols F n' v.arguments _ k' × AreAlike k k' = arguments-there (more u ts) v.arguments p a v.alike in
        (r.0, compound-written u f name _ ts v.arguments v.alike v.equal i b r.1, r.2)
    writes-there {k = k} {n' = n'} {s = s} {t = t} (cell {m = middle} {t = u} {u = x} {f = f} e i p r) a q =
        let v : IsSymbol F S t f (more u (more x none)) = symbol-there symbols E F S m s t f (more u (more x none)) q e in
        let d : IsPair S u x v.arguments = pair_by S u x v.arguments v.alike in
        let y : (k' : Numbers) × PrintsTree symbols F n' d.one _ k' × AreAlike middle k' = tree-there p a d.first in
        let z : (k' : Numbers) × PrintsListTail symbols F y.0 d.other _ k' × AreAlike k k' = list-there r y.2 d.second in
        (z.0, cell (subst (λ (us : Trees). Equal F t (symbol f us)) d.are v.equal) i y.1 z.1, z.2)

    pub arguments-there : {n k n' : Numbers} (ts us : Trees) {text : List ℕ} → PrintsArguments symbols E n ts text k → AreAlike n n' → AlikeTrees S ts us → (k' : Numbers) × PrintsArguments symbols F n' us text k' × AreAlike k k'
    arguments-there ts none (last p) a q = absurd q
    arguments-there {k = k} {n' = n'} ts (more u none) (last p) a q = let r : (k' : Numbers) × PrintsTree symbols F n' u _ k' × AreAlike k k' = tree-there p a q.0 in (r.0, last r.1, r.2)
    arguments-there ts (more u (more v vs)) (last p) a q = absurd q.1
    arguments-there ts none (next p ps) a q = absurd q
    arguments-there ts (more v none) (next p ps) a q = absurd q.1
    arguments-there {k = k} {n' = n'} ts (more v (more x xs)) (next {m = middle} {u = u} {ts = rest} p ps) a q =
        let r : (k' : Numbers) × PrintsTree symbols F n' v _ k' × AreAlike middle k' = tree-there p a q.0 in
        let z : (k' : Numbers) × PrintsArguments symbols F r.0 (more x xs) _ k' × AreAlike k k' = arguments-there (more u rest) (more x xs) ps r.2 q.1 in
        (z.0, next r.1 z.1, z.2)

    pub list-there : {n k n' : Numbers} {s t : Tree} {text : List ℕ} → PrintsListTail symbols E n s text k → AreAlike n n' → S s t → (k' : Numbers) × PrintsListTail symbols F n' t text k' × AreAlike k k'
    list-there {n' = n'} {s = s} {t = t} (ends {f = f} e i) a q =
        let v : IsSymbol F S t f none = symbol-there symbols E F S m s t f none q e in
        (n', ends (subst (λ (us : Trees). Equal F t (symbol f us)) (no_others S v.arguments v.alike) v.equal) i, a)
    list-there {k = k} {n' = n'} {s = s} {t = t} (element {m = middle} {t = u} {u = x} {f = f} g e i p r) a q =
        let v : IsSymbol F S t f (more u (more x none)) = symbol-there symbols E F S m s t f (more u (more x none)) q e in
        let d : IsPair S u x v.arguments = pair_by S u x v.arguments v.alike in
        let y : (k' : Numbers) × PrintsTree symbols F n' d.one _ k' × AreAlike middle k' = tree-there p a d.first in
        let z : (k' : Numbers) × PrintsListTail symbols F y.0 d.other _ k' × AreAlike k k' = list-there r y.2 d.second in
        (z.0, element (λ o. g (cyclic-back q o)) (subst (λ (us : Trees). Equal F t (symbol f us)) d.are v.equal) i y.1 z.1, z.2)
    list-there {k = k} {n' = n'} {t = t} (partial o p) a q =
        let r : (k' : Numbers) × PrintsTree symbols F n' t _ k' × AreAlike k k' = tree-there p a q in (r.0, partial (last-there q o) r.1, r.2)

  pub cycles-there : {i : ℕ} {n n' : Numbers} {text : List ℕ} → PrintsCycleLines symbols E i n text → AreAlike n n' → PrintsCycleLines symbols F i n' text
  cycles-there {n = n} {n' = n'} (all_written e) a = all_written (e ∙ Alike-length S n.cycles n'.cycles a.cycles)
  cycles-there {i = i} {n = n} {n' = n'} (cycle_line {m = k} {s = s} e p r) a =
      let t : (t : Tree) × (slice_get n'.cycles i ≡ Some t) × S s t = Alike-place S n.cycles n'.cycles i s a.cycles e in
      let v : (k' : Numbers) × WritesTree symbols F n' t.0 _ k' × AreAlike k k' = writes-there p a t.2 in
      cycle_line t.1 v.1 (cycles-there r v.2)

  answer-there : {n n' : Numbers} {shown : List (List ℕ × Tree)} {text : List ℕ} → PrintsAnswerLines symbols E n shown text → AreAlike n n' → PrintsAnswerLines symbols F n' shown text
  answer-there (all_shown p) a = all_shown (cycles-there p a)
  answer-there {n' = n'} (line {m = k} {t = t} p r) a =
      let v : (k' : Numbers) × PrintsTree symbols F n' t _ k' × AreAlike k k' = tree-there p a (m.itself t) in
      line v.1 (answer-there r v.2)

  pub none-alike : AreAlike (record { classes = []; cycles = [] }) (record { classes = []; cycles = [] })
  none-alike = record { classes = tt; cycles = tt }

  pub lines-stand : {shown : List (List ℕ × Tree)} {text : List ℕ} → PrintsAnswerLines symbols E (record { classes = []; cycles = [] }) shown text → PrintsAnswerLines symbols F (record { classes = []; cycles = [] }) shown text
  lines-stand p = answer-there p none-alike

pub lines_stand : LinesStandLaw
lines_stand symbols E F w c shown text p = lines-stand symbols E F w c p
