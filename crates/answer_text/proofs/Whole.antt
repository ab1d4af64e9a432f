-- Many turns of the printer.
use Rattle.std.proofs.Common.{◌≡◌, ℕ, zero, suc, ◌+◌, ◌<◌, ◌≤◌, List, [], ◌∷◌, ◌++◌, length, drop, get_or, refl, sym, ◌∙◌, ap, subst, append_assoc, append-nil, length-append, arith}
use Rattle.std.specs.Prelude.{codes}
use Rattle.akl_terms.specs.declared.term.Term.{Term}
use Rattle.akl_terms.specs.declared.program.ShownTerm.{ShownTerm}
use Rattle.akl_terms.specs.Tree.{Tree}
use Rattle.akl_terms.specs.Equal.{Equations}
use Rattle.akl_terms.specs.Template.{Template, tree}
use Rattle.answer_text.specs.Printed.{PrintsLines, no_lines, line}
use Rattle.answer_text.specs.Classes.{Represents}
use Rattle.answer_text.specs.Answers.{longest_answer, shown_trees, IsAnswerText, IsTooLong}
use Rattle.answer_text.specs.Pieces.{State, Rest, lines, byte, whole, trees_of, Continues, Moves, AreEnds, Overruns, line_begun}
use Rattle.answer_text.specs.declared.piece.Piece.{Piece}
use Rattle.answer_text.specs.declared.piece.Piece.TheVariants.{Byte, Whole}

Continues-refl : (t : Template) (E : Equations) (s : State) → Continues t E s s
Continues-refl t E s = record { added = []; out = sym (append-nil s.out); to = λ rest text p. p; from = λ rest text p. (text, refl, p) }

Continues-trans : (t : Template) (E : Equations) (a b c : State) → Continues t E a b → Continues t E b c → Continues t E a c
Continues-trans t E a b c p q = record {
  added = p.added ++ q.added;
  out = q.out ∙ ap (λ (x : List ℕ). x ++ q.added) p.out ∙ append_assoc a.out p.added q.added;
  to = λ rest text r. subst (λ (x : List ℕ). Rest t E (trees_of a.seen) a.pieces rest x) (sym (append_assoc p.added q.added text)) (p.to rest (q.added ++ text) (q.to rest text r));
  from = λ rest text r.
      let u : (others : List ℕ) × (text ≡ p.added ++ others) × Rest t E (trees_of b.seen) b.pieces rest others = p.from rest text r in
      let v : (others : List ℕ) × (u.0 ≡ q.added ++ others) × Rest t E (trees_of c.seen) c.pieces rest others = q.from rest u.0 u.2 in
      (v.0, u.1 ∙ ap (λ (x : List ℕ). p.added ++ x) v.1 ∙ sym (append_assoc p.added q.added v.0), v.2);
}

pub Moves-refl : (t : Template) (go : Tree → Tree) (s : State) → Moves t go s s
Moves-refl t go s = record { continues = λ E r a. Continues-refl t E s; ends = λ E r a. a }

pub Moves-trans : (t : Template) (go : Tree → Tree) (a b c : State) → Moves t go a b → Moves t go b c → Moves t go a c
Moves-trans t go a b c p q = record {
  continues = λ E r e. Continues-trans t E a b c (p.continues E r e) (q.continues E r (p.ends E r e));
  ends = λ E r e. q.ends E r (p.ends E r e);
}

-- from a state whose print is too long, every text is too long
pub Moves-overruns : (t : Template) (go : Tree → Tree) (old new : State) → Moves t go old new → longest_answer < length new.out → Overruns t go old
Moves-overruns t go old new m long E r a rest text p =
    let c : Continues t E old new = m.continues E r a in
    let u : (others : List ℕ) × (text ≡ c.added ++ others) × Rest t E (trees_of new.seen) new.pieces rest others = c.from rest text p in
    let e : old.out ++ text ≡ new.out ++ u.0 = ap (λ (x : List ℕ). old.out ++ x) u.1 ∙ sym (append_assoc old.out c.added u.0) ∙ ap (λ (x : List ℕ). x ++ u.0) (sym c.out) in
    let l : length (old.out ++ text) ≡ length (new.out ++ u.0) = ap length e in
    omega (arith, l, long, length-append {A = ℕ})

-- what is printed of the lines from a state without pieces on
pub record Covers (t : Template) (go : Tree → Tree) (all rest : List (List ℕ × Tree)) (s : State) : Type 0 where
  pub none_left : s.pieces ≡ []
  pub ends : (E : Equations) → Represents E go → AreEnds go s.seen
  pub to : (E : Equations) → Represents E go → (text : List ℕ) → PrintsLines t.symbols E (trees_of s.seen) rest text → PrintsLines t.symbols E [] all (s.out ++ text)
  pub from : (E : Equations) → Represents E go → (text : List ℕ) → PrintsLines t.symbols E [] all text
      → (others : List ℕ) × (text ≡ s.out ++ others) × PrintsLines t.symbols E (trees_of s.seen) rest others

pub Covers-begun : (t : Template) (go : Tree → Tree) (all : List (List ℕ × Tree)) → Covers t go all all (record { out = []; seen = []; pieces = [] })
Covers-begun t go all = record { none_left = refl; ends = λ E r. tt; to = λ E r text p. p; from = λ E r text p. (text, refl, p) }

-- a line is its name and its pieces
line-to : (t : Template) (E : Equations) (name : List ℕ) (s : Term) (seen : List Tree) (rest : List (List ℕ × Tree)) (text : List ℕ) → Rest t E seen (Whole s ∷ Byte 10 ∷ []) rest text
    → PrintsLines t.symbols E seen ((name, tree t.nodes s) ∷ rest) ((name ++ codes " = ") ++ text)
line-to t E name s seen rest text (whole {text = x} p (byte (lines {text = o} q))) =
    subst (λ (z : List ℕ). PrintsLines t.symbols E seen ((name, tree t.nodes s) ∷ rest) z) (append_assoc (name ++ codes " = ") x (10 ∷ o)) (line p q)

line-from : (t : Template) (E : Equations) (name : List ℕ) (s : Term) (seen : List Tree) (rest : List (List ℕ × Tree)) (text : List ℕ)
    → PrintsLines t.symbols E seen ((name, tree t.nodes s) ∷ rest) text
    → (others : List ℕ) × (text ≡ (name ++ codes " = ") ++ others) × Rest t E seen (Whole s ∷ Byte 10 ∷ []) rest others
line-from t E name s seen rest text (line {text = x} {others = o} p q) = (x ++ (10 ∷ o), append_assoc (name ++ codes " = ") x (10 ∷ o), whole p (byte (lines q)))

no_pieces : (t : Template) (E : Equations) (seen : List Tree) (rest : List (List ℕ × Tree)) (text : List ℕ) → Rest t E seen [] rest text → PrintsLines t.symbols E seen rest text
no_pieces t E seen rest text (lines p) = p

-- the line that is begun and printed is covered
pub Covers-more : (t : Template) (go : Tree → Tree) (all rest : List (List ℕ × Tree)) (name : List ℕ) (s : Term) (old new : State) → Covers t go all ((name, tree t.nodes s) ∷ rest) old
    → Moves t go (line_begun name s old) new → new.pieces ≡ [] → Covers t go all rest new
Covers-more t go all rest name s old new c m none = record { none_left = none; ends = λ E r. m.ends E r (c.ends E r); to = to; from = from }
  where
    start : (ps : List Piece) → ps ≡ [] → Whole s ∷ Byte 10 ∷ ps ≡ Whole s ∷ Byte 10 ∷ []
    start ps e = ap (λ (x : List Piece). Whole s ∷ Byte 10 ∷ x) e

    to : (E : Equations) → Represents E go → (text : List ℕ) → PrintsLines t.symbols E (trees_of new.seen) rest text → PrintsLines t.symbols E [] all (new.out ++ text)
    to E r text p =
        let k : Continues t E (line_begun name s old) new = m.continues E r (c.ends E r) in
        let a : Rest t E (trees_of new.seen) new.pieces rest text = subst (λ (x : List Piece). Rest t E (trees_of new.seen) x rest text) (sym none) (lines p) in
        let b : Rest t E (trees_of old.seen) (Whole s ∷ Byte 10 ∷ []) rest (k.added ++ text) =
        subst (λ (x : List Piece). Rest t E (trees_of old.seen) x rest (k.added ++ text)) (start old.pieces c.none_left) (k.to rest text a) in
        let d : PrintsLines t.symbols E [] all (old.out ++ ((name ++ codes " = ") ++ (k.added ++ text))) = c.to E r ((name ++ codes " = ") ++ (k.added ++ text)) (line-to t E name s (trees_of old.seen) rest (k.added ++ text) b) in
        subst (λ (x : List ℕ). PrintsLines t.symbols E [] all x)
        (sym (append_assoc old.out (name ++ codes " = ") (k.added ++ text)) ∙ sym (append_assoc (old.out ++ (name ++ codes " = ")) k.added text) ∙ ap (λ (x : List ℕ). x ++ text) (sym k.out)) d

    from : (E : Equations) → Represents E go → (text : List ℕ) → PrintsLines t.symbols E [] all text → (others : List ℕ) × (text ≡ new.out ++ others) × PrintsLines t.symbols E (trees_of new.seen) rest others
    from E r text p =
        let k : Continues t E (line_begun name s old) new = m.continues E r (c.ends E r) in
        let a : (others : List ℕ) × (text ≡ old.out ++ others) × PrintsLines t.symbols E (trees_of old.seen) ((name, tree t.nodes s) ∷ rest) others = c.from E r text p in
        let b : (others : List ℕ) × (a.0 ≡ (name ++ codes " = ") ++ others) × Rest t E (trees_of old.seen) (Whole s ∷ Byte 10 ∷ []) rest others = line-from t E name s (trees_of old.seen) rest a.0 a.2 in
        let d : (others : List ℕ) × (b.0 ≡ k.added ++ others) × Rest t E (trees_of new.seen) new.pieces rest others =
        k.from rest b.0 (subst (λ (x : List Piece). Rest t E (trees_of old.seen) x rest b.0) (sym (start old.pieces c.none_left)) b.2) in (
          d.0,
          a.1 ∙ ap (λ (x : List ℕ). old.out ++ x) (b.1 ∙ ap (λ (x : List ℕ). (name ++ codes " = ") ++ x) d.1)
              ∙ sym (append_assoc old.out (name ++ codes " = ") (k.added ++ d.0)) ∙ sym (append_assoc (old.out ++ (name ++ codes " = ")) k.added d.0) ∙ ap (λ (x : List ℕ). x ++ d.0) (sym k.out),
          no_pieces t E (trees_of new.seen) rest d.0 (subst (λ (x : List Piece). Rest t E (trees_of new.seen) x rest d.0) none d.2),
        )

-- when all lines are covered, what was printed is their text
pub Covers-text : (t : Template) (go : Tree → Tree) (shown : List ShownTerm) (s : State) → Covers t go (shown_trees t shown) [] s → IsAnswerText t go shown s.out
Covers-text t go shown s c E r = subst (λ (x : List ℕ). PrintsLines t.symbols E [] (shown_trees t shown) x) (append-nil s.out) (c.to E r [] no_lines)

-- when a line is too long, so is every text
pub Covers-long : (t : Template) (go : Tree → Tree) (shown : List ShownTerm) (rest : List (List ℕ × Tree)) (name : List ℕ) (s : Term) (old : State)
    → Covers t go (shown_trees t shown) ((name, tree t.nodes s) ∷ rest) old → Overruns t go (line_begun name s old) → IsTooLong t go shown
Covers-long t go shown rest name s old c o E r text p =
    let a : (others : List ℕ) × (text ≡ old.out ++ others) × PrintsLines t.symbols E (trees_of old.seen) ((name, tree t.nodes s) ∷ rest) others = c.from E r text p in
    let b : (others : List ℕ) × (a.0 ≡ (name ++ codes " = ") ++ others) × Rest t E (trees_of old.seen) (Whole s ∷ Byte 10 ∷ []) rest others = line-from t E name s (trees_of old.seen) rest a.0 a.2 in
    let l : longest_answer < length ((old.out ++ (name ++ codes " = ")) ++ b.0) =
    o E r (c.ends E r) rest b.0 (subst (λ (x : List Piece). Rest t E (trees_of old.seen) (Whole s ∷ Byte 10 ∷ x) rest b.0) (sym c.none_left) b.2) in
    let e : text ≡ (old.out ++ (name ++ codes " = ")) ++ b.0 = a.1 ∙ ap (λ (x : List ℕ). old.out ++ x) b.1 ∙ sym (append_assoc old.out (name ++ codes " = ") b.0) in
    subst (λ (x : List ℕ). longest_answer < length x) (sym e) l

lines-next : (t : Template) (shown : List ShownTerm) (i : ℕ) (d : ShownTerm) → i < length shown → d ≡ get_or shown i d
    → drop i (shown_trees t shown) ≡ (d.name, tree t.nodes d.term) ∷ drop (suc i) (shown_trees t shown)
lines-next t [] i d h e = absurd (omega arith)
lines-next t (s ∷ ss) zero d h e = ap (λ (x : ShownTerm). (x.name, tree t.nodes x.term) ∷ shown_trees t ss) (sym e)
lines-next t (s ∷ ss) (suc i) d h e = lines-next t ss i d (omega arith) e

-- the lines from a place on are the line there and the rest
pub lines-at : (t : Template) (shown : List ShownTerm) (i : ℕ) (d : ShownTerm) → i < length shown → d ≡ get_or shown i d
    → drop i (shown_trees t shown) ≡ (d.name, tree t.nodes d.term) ∷ drop (i + 1) (shown_trees t shown)
lines-at t shown i d h e =
    let next : suc i ≡ i + 1 = omega arith in
    lines-next t shown i d h e ∙ ap (λ (k : ℕ). (d.name, tree t.nodes d.term) ∷ drop k (shown_trees t shown)) next

-- behind the last line there is none
pub lines-end : (t : Template) (shown : List ShownTerm) (i : ℕ) → length shown ≤ i → drop i (shown_trees t shown) ≡ []
lines-end t [] zero h = refl
lines-end t [] (suc i) h = refl
lines-end t (s ∷ ss) zero h = absurd (omega arith)
lines-end t (s ∷ ss) (suc i) h = lines-end t ss i (omega arith)
