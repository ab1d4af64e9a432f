-- Many steps of the printer: lines, and all lines.
use Rattle.std.proofs.Common.{◌≡◌, ℕ, zero, suc, ◌+◌, ◌<◌, List, [], ◌∷◌, ◌++◌, length, drop, Some, None, refl, sym, ◌∙◌, ap, subst, arith, append-nil, length-append}
use Rattle.std.specs.Prelude.{slice_get, get_or}
use Rattle.std.proofs.lemmas.Option.{slice_get_within, slice_get-get_or}
use Rattle.akl_terms.specs.Tree.{Tree}
use Rattle.akl_terms.specs.Equal.{Equations, Equal}
use Rattle.answer_text.specs.Answers.{longest_answer}
use Rattle.answer_text.specs.AnswerLines.{AreAnswerLines, no_numbers, all_written, cycle_line, all_shown}
use Rattle.answer_text.specs.Cyclic.{SameTree}
use Rattle.answer_text.specs.Graph.{Stands, AreThere}
use Rattle.answer_text.proofs.AnswerThere.{text_there}
use Rattle.cycle_marks.specs.Components.{rank_of}
use Rattle.answer_lines.specs.Printing.{State, Forest, class_of, cyclic_at, line_begun, cycle_begun, begun, forest_graph, IsDecidedForest, shown_lines, cycle_lines, Rest, lines, IsText, GoesOn, Moves, Overruns, EndsAs, OverrunsByCycles}
use Rattle.answer_lines.specs.Lines.{AreAt, AreForestLines, AreLongForestLines}
use Rattle.answer_lines.specs.declared.piece.Piece.{Piece}
use Rattle.answer_lines.proofs.Nodes.{classes-length}
use Rattle.answer_lines.proofs.Steps.{begun-goes, line-goes, cycle-line-goes}

pub moves-none : (x : Forest) (s : State) → Moves x s s
moves-none x s E d a text w = record { others = text; same = refl; is_text = w }

pub moves-on : (x : Forest) (s m u : State) → Moves x s m → Moves x m u → Moves x s u
moves-on x s m u f g E d a text w =
    let y : GoesOn x E s m text a = f E d a text w in
    let z : GoesOn x E m u y.others a = g E d a y.others y.is_text in
    record { others = z.others; same = z.same ∙ y.same; is_text = z.is_text }

pub moves-begun : (x : Forest) (p : Piece) (s u : State) → u ≡ begun x p s → Moves x (record s { pieces = p ∷ s.pieces }) u
moves-begun x p s u e E d a text w = subst (λ (v : State). GoesOn x E (record s { pieces = p ∷ s.pieces }) v text a) (sym e) (begun-goes x E d s p a text w)

-- what was printed is too long already
long-by : (out others : List ℕ) → longest_answer < length out → longest_answer < length (out ++ others)
long-by out others h = let l : length (out ++ others) ≡ length out + length others = length-append out others in omega (arith, h, l)

pub overruns-by : (x : Forest) (s u : State) → Moves x s u → longest_answer < length u.out → Overruns x s
overruns-by x s u f h E d a text w =
    let y : GoesOn x E s u text a = f E d a text w in
    subst (λ (z : List ℕ). longest_answer < length z) y.same (long-by u.out y.others h)

-- each text of the lines is what was printed, and goes on as a text from the state on
abbrev pub Covers : Forest → List (List ℕ × Tree) → List ℕ → State → List (List ℕ × Tree) → Type 0
Covers x shown nodes s rest = (E : Equations) → IsDecidedForest E x → AreAt x E shown nodes → (text : List ℕ) → AreAnswerLines x.template.symbols E shown text → (others : List ℕ) × (s.out ++ others ≡ text) × IsText x E s (shown_lines rest) others

pub covers-none : (x : Forest) (shown : List (List ℕ × Tree)) (nodes : List ℕ) → Covers x shown nodes (record { out = []; classes = []; cycles = []; pieces = [] }) shown
covers-none x shown nodes E d a text p = (text, refl, record { numbers = no_numbers; numbered = record { are_classes = tt; are_cycles = tt }; rest = lines p })

-- a shown term stands at its node
at-place : (x : Forest) (E : Equations) (shown : List (List ℕ × Tree)) (nodes : List ℕ) (k i : ℕ) (name : List ℕ) (t : Tree) (rest : List (List ℕ × Tree)) → AreAt x E shown nodes → drop k shown ≡ (name, t) ∷ rest → slice_get nodes k ≡ Some i
    → (u : Tree) × Stands (forest_graph x) i u × Equal E t u
at-place x E [] nodes k i name t rest a e g = absurd (no-drop k e)
  where
    no-drop : (k : ℕ) → drop k [] ≡ (name, t) ∷ rest → ⊥
    no-drop zero e = cc
    no-drop (suc k) e = cc
at-place x E ((m, v) ∷ shown) [] k i name t rest a e g = absurd a
at-place x E ((m, v) ∷ shown) (j ∷ nodes) zero i name t rest a e g =
    let h : (m, v) ≡ (name, t) = cc in
    let o : v ≡ t = ap (λ (z : List ℕ × Tree). z.1) h in
    let q : j ≡ i = (let y : Some j ≡ Some i = g in cc) in
    (a.0.0, subst (λ (z : ℕ). Stands (forest_graph x) z a.0.0) q a.0.1, subst (λ (z : Tree). Equal E z a.0.0) o a.0.2)
at-place x E ((m, v) ∷ shown) (j ∷ nodes) (suc k) i name t rest a e g = at-place x E shown nodes k i name t rest a.1 e g

module _ (x : Forest) (shown : List (List ℕ × Tree)) (nodes : List ℕ) (s : State) (k i : ℕ) (name : List ℕ) (t : Tree) (rest : List (List ℕ × Tree)) (here : drop k shown ≡ (name, t) ∷ rest) (at : slice_get nodes k ≡ Some i) (none_left : s.pieces ≡ [])
    (c : Covers x shown nodes s ((name, t) ∷ rest)) where
  line-of : (E : Equations) (d : IsDecidedForest E x) (a : AreAt x E shown nodes) (text : List ℕ) (p : AreAnswerLines x.template.symbols E shown text) → GoesOn x E s (line_begun name i s) ((c E d a text p).0) (shown_lines rest)
  line-of E d a text p = line-goes x E d s name t rest i (c E d a text p).0 none_left (at-place x E shown nodes k i name t rest a here at) (c E d a text p).2

  pub covers-line : (u : State) → Moves x (line_begun name i s) u → Covers x shown nodes u rest
  covers-line u f E d a text p =
      let g : GoesOn x E s (line_begun name i s) ((c E d a text p).0) (shown_lines rest) = line-of E d a text p in
      let h : GoesOn x E (line_begun name i s) u g.others (shown_lines rest) = f E d (shown_lines rest) g.others g.is_text in
      (h.others, h.same ∙ g.same ∙ (c E d a text p).1, h.is_text)

  pub long-line : Overruns x (line_begun name i s) → AreLongForestLines x shown nodes
  long-line f E d a text p =
      let g : GoesOn x E s (line_begun name i s) ((c E d a text p).0) (shown_lines rest) = line-of E d a text p in
      subst (λ (z : List ℕ). longest_answer < length z) (g.same ∙ (c E d a text p).1) (f E d (shown_lines rest) g.others g.is_text)

-- behind the last shown term come the cyclic trees
all-lines : (x : Forest) (E : Equations) (s : State) (text : List ℕ) → s.pieces ≡ [] → IsText x E s (shown_lines []) text → IsText x E s (cycle_lines 0) text
all-lines x E s text e w = record { numbers = w.numbers; numbered = w.numbered; rest = subst (λ (ps : List Piece). Rest x E w.numbers ps (cycle_lines 0) text) (sym e) (from (subst (λ (ps : List Piece). Rest x E w.numbers ps (shown_lines []) text) e w.rest)) }
  where
    from : Rest x E w.numbers [] (shown_lines []) text → Rest x E w.numbers [] (cycle_lines 0) text
    from (lines (all_shown p)) = lines p

pub are-there : (x : Forest) (E : Equations) (shown : List (List ℕ × Tree)) (nodes : List ℕ) → AreAt x E shown nodes → AreThere E (forest_graph x) shown
are-there x E [] nodes a = tt
are-there x E ((name, t) ∷ shown) [] a = absurd a
are-there x E ((name, t) ∷ shown) (i ∷ nodes) a = ((i, a.0.0, a.0.1, a.0.2), are-there x E shown nodes a.1)

module _ (x : Forest) (shown : List (List ℕ × Tree)) (nodes : List ℕ) (s : State) (none_left : s.pieces ≡ []) (c : Covers x shown nodes s []) where
  pub covers-all : (u : State) → EndsAs x s u → AreForestLines x shown nodes u.out
  covers-all u f E d a =
      let z : (text : List ℕ) × AreAnswerLines x.template.symbols E shown text =
      text_there x.template.symbols E (forest_graph x) (class_of x) (λ i. rank_of x.classes.marks (class_of x i)) (cyclic_at x) shown d.consistent d.decided (are-there x E shown nodes a) in
      let w : (others : List ℕ) × (s.out ++ others ≡ z.0) × IsText x E s (shown_lines []) others = c E d a z.0 z.1 in
      subst (λ (text : List ℕ). AreAnswerLines x.template.symbols E shown text) (sym (f E d w.0 (all-lines x E s w.0 none_left w.2) ∙ w.1)) z.1

  pub long-cycles : OverrunsByCycles x s → AreLongForestLines x shown nodes
  long-cycles f E d a text p =
      let w : (others : List ℕ) × (s.out ++ others ≡ text) × IsText x E s (shown_lines []) others = c E d a text p in
      subst (λ (z : List ℕ). longest_answer < length z) w.1 (f E d w.0 (all-lines x E s w.0 none_left w.2))

-- the lines of the cyclic trees before this number are printed
abbrev pub CyclesBefore : Forest → State → State → ℕ → Type 0
CyclesBefore x old s k = (E : Equations) → IsDecidedForest E x → (text : List ℕ) → IsText x E old (cycle_lines 0) text → GoesOn x E old s text (cycle_lines k)

pub cycles-none : (x : Forest) (s : State) → CyclesBefore x s s 0
cycles-none x s E d text w = record { others = text; same = refl; is_text = w }

module _ (x : Forest) (old s : State) (k b : ℕ) (none_left : s.pieces ≡ []) (at : slice_get s.cycles k ≡ Some b) (c : CyclesBefore x old s k) where
  pub cycles-more : (m : ℕ) (u : State) → m ≡ suc k → Moves x (cycle_begun x k b s) u → CyclesBefore x old u m
  cycles-more m u e f = subst (λ (n : ℕ). CyclesBefore x old u n) (sym e) more
    where
      more : CyclesBefore x old u (suc k)
      more E d text w =
          let g : GoesOn x E old s text (cycle_lines k) = c E d text w in
          let h : GoesOn x E s (cycle_begun x k b s) g.others (cycle_lines (suc k)) = cycle-line-goes x E d s k b g.others none_left at g.is_text in
          let j : GoesOn x E (cycle_begun x k b s) u h.others (cycle_lines (suc k)) = f E d (cycle_lines (suc k)) h.others h.is_text in
          record { others = j.others; same = j.same ∙ h.same ∙ g.same; is_text = j.is_text }

  pub cycles-long : Overruns x (cycle_begun x k b s) → OverrunsByCycles x old
  cycles-long f E d text w =
      let g : GoesOn x E old s text (cycle_lines k) = c E d text w in
      let h : GoesOn x E s (cycle_begun x k b s) g.others (cycle_lines (suc k)) = cycle-line-goes x E d s k b g.others none_left at g.is_text in
      subst (λ (z : List ℕ). longest_answer < length z) (h.same ∙ g.same) (f E d (cycle_lines (suc k)) h.others h.is_text)

pub cycles-end : (x : Forest) (old s : State) (k : ℕ) → s.pieces ≡ [] → slice_get s.cycles k ≡ None → CyclesBefore x old s k → EndsAs x old s
cycles-end x old s k none_left at c E d text w =
    let g : GoesOn x E old s text (cycle_lines k) = c E d text w in
    let e : g.others ≡ [] = ended g.others g.is_text in
    sym (append-nil s.out) ∙ ap (λ (z : List ℕ). s.out ++ z) (sym e) ∙ g.same
  where
    ended : (others : List ℕ) → IsText x E s (cycle_lines k) others → others ≡ []
    ended others v = from others (subst (λ (ps : List Piece). Rest x E v.numbers ps (cycle_lines k) others) none_left v.rest)
      where
        from : (others : List ℕ) → Rest x E v.numbers [] (cycle_lines k) others → others ≡ []
        from others (lines (all_written e)) = refl
        from others (lines (cycle_line {s = u} e q r)) = absurd (
            let l : k < length v.numbers.cycles = slice_get_within v.numbers.cycles k u e in
            let m : length v.numbers.cycles ≡ length s.cycles = classes-length x (SameTree E) v.numbers.cycles s.cycles v.numbered.are_cycles in
            let o : slice_get s.cycles k ≡ Some (get_or s.cycles k 0) = slice_get-get_or s.cycles k 0 (omega (arith, l, m)) in
            let z : None ≡ Some (get_or s.cycles k 0) = sym at ∙ o in cc)
