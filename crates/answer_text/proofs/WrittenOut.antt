-- The text of trees that are all written out is the text of the answer: none of them is cyclic.
use Rattle.std.proofs.Common.{◌≡◌, ℕ, zero, suc, ◌+◌, ◌≤◌, List, [], ◌∷◌, ◌++◌, length, length-append, refl, ◌∙◌, ap, subst, inl, arith, Some}
use Rattle.std.specs.Prelude.{slice_get}
use Rattle.akl_terms.specs.Tree.{Tree, Trees, integer, port, symbol, none, more, list_of, Head, head_of, arguments}
use Rattle.akl_terms.specs.Equal.{Equations, Equal, turned, joined, IsConsistent}
use Rattle.answer_text.specs.Printed as plain_text
use Rattle.answer_text.specs.Printed.{IsFree}
use Rattle.answer_text.specs.Cyclic.{SameTree, LeadsTo, stays, goes, IsCyclic}
use Rattle.answer_text.specs.AnswerLines as lines_text
use Rattle.answer_text.specs.AnswerLines.{Numbers, plain, all_shown, all_written}
use Rattle.answer_text.specs.Laws.{WrittenOutLaw}
use Rattle.answer_text.proofs.Determined.{one_head}
use Rattle.akl_terms.proofs.Arguments.{partner}
use Rattle.answer_text.proofs.SameTrees.{headed, Same-leads, leads-structured, equal-inside}

-- no list of more positions leads down from the tree
record IsWithin (E : Equations) (d : ℕ) (s : Tree) : Type 0 where
  within : {ks : List ℕ} {t : Tree} → LeadsTo E ks s t → length ks ≤ d

leads-on : (E : Equations) {ks ls : List ℕ} {s t u : Tree} → LeadsTo E ks s t → LeadsTo E ls t u → LeadsTo E (ks ++ ls) s u
leads-on E stays q = q
leads-on E (goes k p i l) q = goes k p i (leads-on E l q)

leads-equal : (E : Equations) {ks : List ℕ} {s s' t : Tree} → Equal E s' s → LeadsTo E ks s t → (t' : Tree) × LeadsTo E ks s' t'
leads-equal E {s' = s'} e stays = (s', stays)
leads-equal E {t = t} e (goes k p i l) = (t, goes k (joined e p) i l)

module _ (symbols : List (List ℕ)) (E : Equations) (c : IsConsistent E) where
  -- a cyclic tree has lists of positions of any length
  long : {s : Tree} → IsCyclic E s → (n : ℕ) → (ks : List ℕ) × (t : Tree) × LeadsTo E ks s t × (n ≤ length ks)
  long {s} y zero = ([], s, stays, omega arith)
  long {s} y (suc n) =
      let z : (ks : List ℕ) × (t : Tree) × LeadsTo E ks s t × (n ≤ length ks) = long y n in
      let v : (t' : Tree) × LeadsTo E z.0 y.met t' × SameTree E z.1 t' = Same-leads E c y.again z.2 in
      let l : length ((y.at ∷ y.below) ++ z.0) ≡ length (y.at ∷ y.below) + length z.0 = length-append (y.at ∷ y.below) z.0 in
      ((y.at ∷ y.below) ++ z.0, v.0, leads-on E y.leads v.1, let m : n ≤ length z.0 = z.3 in omega (arith, l, m))

  never : {d : ℕ} {s : Tree} → IsWithin E d s → IsCyclic E s → ⊥
  never {d} {s} w y =
      let z : (ks : List ℕ) × (t : Tree) × LeadsTo E ks s t × (suc d ≤ length ks) = long y (suc d) in
      let l : length z.0 ≤ d = w.within z.2 in
      let m : suc d ≤ length z.0 = z.3 in absurd (omega (arith, l, m))

  free-within : {s : Tree} → IsFree E s → IsWithin E 0 s
  free-within f = record { within = λ l. short l f }
    where
      short : {ks : List ℕ} {s t : Tree} → LeadsTo E ks s t → IsFree E s → length ks ≤ 0
      short stays f = omega arith
      short (goes k p i l) f = absurd (leads-structured E c (goes k p i l) f)

  -- the arguments of what a tree is equal to bound it
  under : {s u : Tree} {h : Head} (d : ℕ) → Equal E s u → head_of u ≡ Some h → ((k : ℕ) (a : Tree) → slice_get (arguments u) k ≡ Some a → IsWithin E d a) → IsWithin E (suc d) s
  under {s} {u} {h} d e i f = record { within = λ l. short l e }
    where
      short : {ks : List ℕ} {s' t : Tree} → LeadsTo E ks s' t → Equal E s' u → length ks ≤ suc d
      short stays q = omega arith
      short (goes {u = v} {a = a} {ks = ks} k p x l) q =
          let g : (g : Head) × (head_of v ≡ Some g) = headed v k a x in
          let gh : g.0 ≡ h = one_head E c _ _ _ _ _ p q g.1 i in
          let b : (b : Tree) × (slice_get (arguments u) k ≡ Some b) = partner v u h k a (g.1 ∙ ap Some gh) i x in
          let m : (t' : Tree) × LeadsTo E ks b.0 t' = leads-equal E (turned (equal-inside E c k p q g.1 i x b.1)) l in
          let o : length ks ≤ d = (f k b.0 b.1).within m.1 in omega (arith, o)

  wider : {d e : ℕ} {s : Tree} → d ≤ e → IsWithin E d s → IsWithin E e s
  wider {d} {e} l w = record { within = λ {ks} m. let o : length ks ≤ d = w.within m in omega (arith, l, o) }

  at-none : (u : Tree) → arguments u ≡ [] → (k : ℕ) (a : Tree) → slice_get (arguments u) k ≡ Some a → IsWithin E 0 a
  at-none u e k a i = absurd (let z : slice_get [] k ≡ Some a = subst (λ (x : List Tree). slice_get x k ≡ Some a) e i in cc)

  at-pair : (d e : ℕ) (t u : Tree) → IsWithin E d t → IsWithin E e u → (k : ℕ) (a : Tree) → slice_get (t ∷ u ∷ []) k ≡ Some a → IsWithin E (d + e) a
  at-pair d e t u p q zero a i = let m : t ≡ a = cc in subst (λ (x : Tree). IsWithin E (d + e) x) m (wider (omega arith) p)
  at-pair d e t u p q (suc zero) a i = let m : u ≡ a = cc in subst (λ (x : Tree). IsWithin E (d + e) x) m (wider (omega arith) q)
  at-pair d e t u p q (suc (suc k)) a i = cc

  one : (t : Tree) (d : ℕ) → IsWithin E d t → (k : ℕ) (a : Tree) → slice_get (t ∷ []) k ≡ Some a → IsWithin E d a
  one t d p zero a i = let m : t ≡ a = cc in subst (λ (x : Tree). IsWithin E d x) m p
  one t d p (suc k) a i = cc

  more-of : (t : Tree) (us : List Tree) (d e : ℕ) → IsWithin E d t → ((k : ℕ) (a : Tree) → slice_get us k ≡ Some a → IsWithin E e a) → (k : ℕ) (a : Tree) → slice_get (t ∷ us) k ≡ Some a → IsWithin E (d + e) a
  more-of t us d e p q zero a i = let m : t ≡ a = cc in subst (λ (x : Tree). IsWithin E (d + e) x) m (wider (omega arith) p)
  more-of t us d e p q (suc k) a i = wider (omega arith) (q k a i)

  mutual
    prints-within : {seen new : List Tree} {s : Tree} {text : List ℕ} → plain_text.Prints symbols E seen s text new → (d : ℕ) × IsWithin E d s
    prints-within (plain_text.class f k) = (0, free-within f)
    prints-within (plain_text.number {z = z} e) = (1, under {u = integer z} 0 e refl (at-none (integer z) refl))
    prints-within (plain_text.a_port {p = p} e) = (1, under {u = port p} 0 e refl (at-none (port p) refl))
    prints-within (plain_text.constant {f = f} e i) = (1, under {u = symbol f none} 0 e refl (at-none (symbol f none) refl))
    prints-within (plain_text.compound {t = t} {ts = ts} {f = f} e i b p) = let z : (d : ℕ) × ((k : ℕ) (a : Tree) → slice_get (list_of (more t ts)) k ≡ Some a → IsWithin E d a) = all-within p in (suc z.0, under {u = symbol f (more t ts)} z.0 e refl z.1)
    prints-within (plain_text.cell {t = t} {u = u} {f = f} e i p q) =
        let y : (d : ℕ) × IsWithin E d t = prints-within p in
        let z : (d : ℕ) × IsWithin E d u = tail-within q in
        (suc (y.0 + z.0), under {u = symbol f (more t (more u none))} (y.0 + z.0) e refl (at-pair y.0 z.0 t u y.1 z.1))

    all-within : {seen new : List Tree} {ts : Trees} {text : List ℕ} → plain_text.PrintsAll symbols E seen ts text new → (d : ℕ) × ((k : ℕ) (a : Tree) → slice_get (list_of ts) k ≡ Some a → IsWithin E d a)
    all-within (plain_text.last {t = t} p) = let y : (d : ℕ) × IsWithin E d t = prints-within p in (y.0, λ k a i. one t y.0 y.1 k a i)
    all-within (plain_text.next {t = t} {u = u} {ts = ts} p ps) =
        let y : (d : ℕ) × IsWithin E d t = prints-within p in
        let z : (d : ℕ) × ((k : ℕ) (a : Tree) → slice_get (list_of (more u ts)) k ≡ Some a → IsWithin E d a) = all-within ps in
        (y.0 + z.0, λ k a i. more-of t (list_of (more u ts)) y.0 z.0 y.1 z.1 k a i)

    tail-within : {seen new : List Tree} {s : Tree} {text : List ℕ} → plain_text.PrintsTail symbols E seen s text new → (d : ℕ) × IsWithin E d s
    tail-within (plain_text.ends {f = f} e i) = (1, under {u = symbol f none} 0 e refl (at-none (symbol f none) refl))
    tail-within (plain_text.element {t = t} {u = u} {f = f} e i p q) =
        let y : (d : ℕ) × IsWithin E d t = prints-within p in
        let z : (d : ℕ) × IsWithin E d u = tail-within q in
        (suc (y.0 + z.0), under {u = symbol f (more t (more u none))} (y.0 + z.0) e refl (at-pair y.0 z.0 t u y.1 z.1))
    tail-within (plain_text.partial o p) = prints-within p

  abbrev of : List Tree → Numbers
  of seen = record { classes = seen; cycles = [] }

  mutual
    prints : {seen new : List Tree} {s : Tree} {text : List ℕ} → plain_text.Prints symbols E seen s text new → lines_text.PrintsTree symbols E (of seen) s text (of new)
    prints (plain_text.class f k) = lines_text.class f k
    prints (plain_text.number e) = plain (never (prints-within (plain_text.number {seen = []} e)).1) (lines_text.number e)
    prints (plain_text.a_port e) = plain (never (prints-within (plain_text.a_port {seen = []} e)).1) (lines_text.a_port e)
    prints (plain_text.constant e i) = plain (never (prints-within (plain_text.constant {seen = []} e i)).1) (lines_text.constant e i)
    prints (plain_text.compound e i b p) = plain (never (prints-within (plain_text.compound e i b p)).1) (lines_text.compound e i b (prints-all p))
    prints (plain_text.cell e i p q) = plain (never (prints-within (plain_text.cell e i p q)).1) (lines_text.cell e i (prints p) (prints-tail q))

    prints-all : {seen new : List Tree} {ts : Trees} {text : List ℕ} → plain_text.PrintsAll symbols E seen ts text new → lines_text.PrintsArguments symbols E (of seen) ts text (of new)
    prints-all (plain_text.last p) = lines_text.last (prints p)
    prints-all (plain_text.next p q) = lines_text.next (prints p) (prints-all q)

    prints-tail : {seen new : List Tree} {s : Tree} {text : List ℕ} → plain_text.PrintsTail symbols E seen s text new → lines_text.PrintsListTail symbols E (of seen) s text (of new)
    prints-tail (plain_text.ends e i) = lines_text.ends e i
    prints-tail (plain_text.element e i p q) = lines_text.element (never (tail-within (plain_text.element e i p q)).1) e i (prints p) (prints-tail q)
    prints-tail (plain_text.partial o p) = lines_text.partial (inl o) (prints p)

  prints-lines : {seen : List Tree} {shown : List (List ℕ × Tree)} {text : List ℕ} → plain_text.PrintsLines symbols E seen shown text → lines_text.PrintsAnswerLines symbols E (of seen) shown text
  prints-lines plain_text.no_lines = all_shown (all_written refl)
  prints-lines (plain_text.line p q) = lines_text.line (prints p) (prints-lines q)

pub written_out : WrittenOutLaw
written_out symbols E shown text c p = prints-lines symbols E c p
