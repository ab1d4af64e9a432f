-- Each step of the printer goes on.
use Rattle.std.proofs.Common.{◌≡◌, ℕ, ℤ, suc, ◌<◌, List, [], ◌∷◌, ◌++◌, length, Some, None, Bool, true, false, cond, refl, sym, ◌∙◌, ap, subst, inl, inr, append_assoc, arith}
use Rattle.std.specs.Prelude.{slice_get, codes, bytes_eq, ◌⊎◌}
use Rattle.std.specs.Fmt.{signed_decimal}
use Rattle.std.proofs.lemmas.Slice.Eq.{bytes_eq-Decides}
use Rattle.std.proofs.lemmas.Option.{get_or_from_slice_get, slice_get_within}
use Rattle.akl_terms.specs.declared.name.Name.{Name}
use Rattle.akl_terms.specs.declared.name.Var.{Var}
use Rattle.akl_terms.specs.declared.term.Seen.{Seen}
use Rattle.akl_terms.specs.declared.term.Seen.TheVariants.{Free}
use Rattle.akl_terms.specs.Tree.{Tree, Trees, variable, integer, port, symbol, none, more, list_of, Head, head_of, integer_head, port_head, symbol_head}
use Rattle.akl_terms.specs.declared.term.Term.TheVariants.{Mol}
use Rattle.akl_terms.specs.Template.{tree, trees_from}
use Rattle.akl_terms.specs.Equal.{Equations, Equal, IsTold, same, turned, joined}
use Rattle.akl_terms.specs.Standing.{StandFor}
use Rattle.answer_text.specs.SymbolText.{symbol_text, constant_text}
use Rattle.answer_text.specs.Printed.{IsFree, IsNumbered, IsOtherTail, class_text, is_cell}
use Rattle.answer_text.specs.Printed.{GoesOn as Continues}
use Rattle.answer_text.specs.Cyclic.{SameTree, IsCyclic}
use Rattle.answer_text.specs.AnswerLines.{Numbers, cycle_text, IsLastTail, PrintsTree, class, cycle, plain, WritesTree, number, a_port, constant, compound, cell, PrintsArguments, last, next, PrintsListTail, ends, element, partial, all_written, cycle_line, line}
use Rattle.answer_text.specs.Graph.{Stands}
use Rattle.answer_text.proofs.AnswerThere.{prints-equal, tail-equal, other-integer, other-port, other-symbol, other-name, other-free}
use Rattle.answer_text.proofs.LinesThere.{AreAlike, writes-there, cycles-there}
use Rattle.answer_text.proofs.OneAnswer.{end-other, last-other, not-cell, writes-structured}
use Rattle.answer_text.proofs.Respects.{Alike, AlikeTrees, IsOneSymbol, one_symbol}
use Rattle.answer_text.proofs.SameTrees.{cyclic-structured, Same-turned, Same-joined}
use Rattle.answer_text.proofs.TextsStand.{stands-correspond}
use Rattle.term_graph.specs.Building.{seen_tree}
use Rattle.tree_classes.specs.Numbers.{number_in, with_number}
use Rattle.answer_lines.specs.Printing.{State, Forest, seen_at, row_at, class_of, cyclic_at, name_of, with_bytes, class_printed, cycle_printed, argument_pieces, compound_begun, cell_begun, symbol_begun, written_begun, partial_begun, symbol_tail_begun, tail_begun, begun, line_begun, cycle_begun, forest_graph, IsDecidedForest, IsOfClass, AreOfClasses, AreNumbered, Ahead, shown_lines, cycle_lines, Rest, lines, byte, whole, tail, IsText, GoesOn}
use Rattle.answer_lines.specs.declared.piece.Piece.{Piece}
use Rattle.answer_lines.specs.declared.piece.Piece.TheVariants.{Byte, Whole, Tail}
use Rattle.answer_lines.proofs.Nodes.{node-term, AreRow, row-alike, node-row, same-class, is-cyclic, not-cyclic, numbered-class, numbered-cycle, class-at, classes-length}

abbrev Is : ℕ → ℕ → Type 0
Is a b = a ≡ b

-- texts behind one another
joins_cell : (b : ℕ) (x y o : List ℕ) → (b ∷ x ++ y) ++ o ≡ (b ∷ []) ++ (x ++ (y ++ o))
joins_cell b x y o = ap (λ (z : List ℕ). b ∷ z) (append_assoc x y o)

joins_compound : (name x o : List ℕ) → (name ++ 40 ∷ x ++ 41 ∷ []) ++ o ≡ (name ++ 40 ∷ []) ++ (x ++ (41 ∷ o))
joins_compound name x o = append_assoc (name ++ 40 ∷ x) (41 ∷ []) o ∙ append_assoc name (40 ∷ x) (41 ∷ o) ∙ sym (append_assoc name (40 ∷ []) (x ++ (41 ∷ o)))

joins_partial : (x o : List ℕ) → (124 ∷ x ++ 93 ∷ []) ++ o ≡ (124 ∷ []) ++ (x ++ (93 ∷ o))
joins_partial x o = append_assoc (124 ∷ x) (93 ∷ []) o

either : (b : Bool) → (b ≡ true) ⊎ (b ≡ false)
either true = inl refl
either false = inr refl

module _ (x : Forest) (E : Equations) (d : IsDecidedForest E x) where
  abbrev symbols : List (List ℕ)
  symbols = x.template.symbols

  abbrev At : ℕ → Tree → Type 0
  At i t = Stands (forest_graph x) i t

  -- bytes that were added
  goes : (new : State) (bytes : List ℕ) (s : State) (text others : List ℕ) (a : Ahead) (n : Numbers) → new.out ≡ s.out ++ bytes → text ≡ bytes ++ others → AreNumbered x E n new.classes new.cycles → Rest x E n new.pieces a others → GoesOn x E s new text a
  goes new bytes s text others a n o e m r = record {
    others = others;
    same = ap (λ (z : List ℕ). z ++ others) o ∙ append_assoc s.out bytes others ∙ ap (λ (z : List ℕ). s.out ++ z) (sym e);
    is_text = record { numbers = n; numbered = m; rest = r };
  }

  self : (i : ℕ) (t : Tree) → At i t → SameTree E t t
  self i t p = same-class x E d i i t t p p refl

  -- a variable of a node is an unstructured class
  free-node : (i : ℕ) (v : Var) → At i (variable v) → IsFree E (variable v)
  free-node i v p = from (d.decided.graph.ends i (variable v) p)
    where
      from : IsFree E (variable v) ⊎ ((h : Head) × (head_of (variable v) ≡ Some h)) → IsFree E (variable v)
      from (inl f) = f
      from (inr h) = absurd (let z : None ≡ Some h.0 = h.1 in cc)

  free-other : (v : Var) (i : ℕ) → At i (variable v) → IsOtherTail symbols E (variable v)
  free-other v i p = other-free symbols E (forest_graph x) (class_of x) _ (cyclic_at x) d.consistent d.decided.graph d.decided.stable d.decided.fair d.decided.ranked d.decided.names (variable v) (free-node i v p)

  not-named : (f : ℕ) (wanted : List ℕ) → bytes_eq wanted wanted ≡ true → slice_get symbols f ≡ Some (name_of x.template f) → bytes_eq (name_of x.template f) wanted ≡ false → slice_get symbols f ≡ Some wanted → ⊥
  not-named f wanted t e b o = other-name symbols E (forest_graph x) (class_of x) _ (cyclic_at x) d.consistent d.decided.graph d.decided.stable d.decided.fair d.decided.ranked d.decided.names f (name_of x.template f) wanted t e b o

  named : (f : ℕ) (name : List ℕ) → slice_get symbols f ≡ Some name → name_of x.template f ≡ name
  named f name e = get_or_from_slice_get symbols f name [] e

  name-there : (i f : ℕ) (ts : Trees) → At i (symbol f ts) → slice_get symbols f ≡ Some (name_of x.template f)
  name-there i f ts p = let z : (name : List ℕ) × (slice_get symbols f ≡ Some name) = d.decided.names.name i f ts p in z.1 ∙ ap Some (sym (named f z.0 z.1))

  -- the state behind a text and what is printed behind it
  module _ (s : State) (a : Ahead) (n : Numbers) (w : AreNumbered x E n s.classes s.cycles) where
    integer-goes : (z : ℤ) {m : Numbers} {text others : List ℕ} → WritesTree symbols E n (integer z) text m → Rest x E m s.pieces a others → GoesOn x E s (with_bytes (signed_decimal z) s) (text ++ others) a
    integer-goes z {others = others} (number {z = y} e) r =
        let h : integer_head z ≡ integer_head y = d.consistent.heads e refl refl in
        let zy : z ≡ y = cc in
        goes (with_bytes (signed_decimal z) s) (signed_decimal z) s (signed_decimal y ++ others) others a n refl (ap (λ (v : ℤ). signed_decimal v ++ others) (sym zy)) w r
    integer-goes z (a_port {p = p} e) r = absurd (let h : integer_head z ≡ port_head p = d.consistent.heads e refl refl in cc)
    integer-goes z (constant {f = f} e i) r = absurd (let h : integer_head z ≡ symbol_head f 0 = d.consistent.heads e refl refl in cc)
    integer-goes z (compound {t = t} {ts = ts} {f = f} e i b p) r = absurd (let h : integer_head z ≡ symbol_head f (length (list_of (more t ts))) = d.consistent.heads e refl refl in cc)
    integer-goes z (cell {f = f} e i p q) r = absurd (let h : integer_head z ≡ symbol_head f 2 = d.consistent.heads e refl refl in cc)

    port-goes : (z : Name) {m : Numbers} {text others : List ℕ} → WritesTree symbols E n (port z) text m → Rest x E m s.pieces a others → GoesOn x E s (with_bytes (codes "port") s) (text ++ others) a
    port-goes z (number {z = y} e) r = absurd (let h : port_head z ≡ integer_head y = d.consistent.heads e refl refl in cc)
    port-goes z {others = others} (a_port e) r = goes (with_bytes (codes "port") s) (codes "port") s (codes "port" ++ others) others a n refl refl w r
    port-goes z (constant {f = f} e i) r = absurd (let h : port_head z ≡ symbol_head f 0 = d.consistent.heads e refl refl in cc)
    port-goes z (compound {t = t} {ts = ts} {f = f} e i b p) r = absurd (let h : port_head z ≡ symbol_head f (length (list_of (more t ts))) = d.consistent.heads e refl refl in cc)
    port-goes z (cell {f = f} e i p q) r = absurd (let h : port_head z ≡ symbol_head f 2 = d.consistent.heads e refl refl in cc)

    constant-goes : (f : ℕ) {m : Numbers} {text others : List ℕ} → WritesTree symbols E n (symbol f none) text m → Rest x E m s.pieces a others → GoesOn x E s (with_bytes (constant_text (name_of x.template f)) s) (text ++ others) a
    constant-goes f (number {z = z} e) r = absurd (let h : symbol_head f 0 ≡ integer_head z = d.consistent.heads e refl refl in cc)
    constant-goes f (a_port {p = p} e) r = absurd (let h : symbol_head f 0 ≡ port_head p = d.consistent.heads e refl refl in cc)
    constant-goes f {others = others} (constant {f = g} {name = name} e i) r =
        let h : symbol_head f 0 ≡ symbol_head g 0 = d.consistent.heads e refl refl in
        let fg : f ≡ g = cc in
        let m : name_of x.template f ≡ name = ap (name_of x.template) fg ∙ named g name i in
        goes (with_bytes (constant_text (name_of x.template f)) s) (constant_text (name_of x.template f)) s (constant_text name ++ others) others a n refl (ap (λ (v : List ℕ). constant_text v ++ others) (sym m)) w r
    constant-goes f (compound {t = t} {ts = ts} {f = g} e i b p) r = absurd (let h : symbol_head f 0 ≡ symbol_head g (suc (length (list_of ts))) = d.consistent.heads e refl refl in let l : Is 0 (suc (length (list_of ts))) = cc in omega (arith, l))
    constant-goes f (cell {f = g} e i p q) r = absurd (let h : symbol_head f 0 ≡ symbol_head g 2 = d.consistent.heads e refl refl in let l : Is 0 2 = cc in omega (arith, l))

    -- arguments are printed by their nodes
    arguments-rest : {k m : Numbers} (ts : Trees) (js : List ℕ) {text others : List ℕ} (ps : List Piece) → PrintsArguments symbols E k ts text m → AreRow x E ts js → Rest x E m ps a others → Rest x E k (argument_pieces js ps) a (text ++ others)
    arguments-rest ts [] ps (last p) r o = absurd r
    arguments-rest ts (j ∷ []) ps (last p) r o = whole r.0.1 (prints-equal E d.consistent symbols (turned r.0.2) p) o
    arguments-rest ts (j ∷ l ∷ js) ps (last p) r o = absurd r.1
    arguments-rest ts [] ps (next p q) r o = absurd r
    arguments-rest ts (j ∷ []) ps (next p q) r o = absurd r.1
    arguments-rest {k = k} ts (j ∷ l ∷ js) {others = others} ps (next {u = u} {ts = us} {text = y} {others = z} p q) r o =
        subst (λ (v : List ℕ). Rest x E k (argument_pieces (j ∷ l ∷ js) ps) a v) (sym (append_assoc y (44 ∷ z) others))
        (whole r.0.1 (prints-equal E d.consistent symbols (turned r.0.2) p) (byte (arguments-rest (more u us) (l ∷ js) ps q r.1 o)))

    compound-goes : (f : ℕ) (t : Tree) (ts : Trees) (row : List ℕ) → slice_get symbols f ≡ Some (name_of x.template f) → AreRow x E (more t ts) row → is_cell (name_of x.template f) (more t ts) ≡ false
        → {m : Numbers} {text others : List ℕ} → WritesTree symbols E n (symbol f (more t ts)) text m → Rest x E m s.pieces a others → GoesOn x E s (compound_begun (name_of x.template f) row s) (text ++ others) a
    compound-goes f t ts row there row_is b (number {z = z} e) r = absurd (let h : symbol_head f (suc (length (list_of ts))) ≡ integer_head z = d.consistent.heads e refl refl in cc)
    compound-goes f t ts row there row_is b (a_port {p = p} e) r = absurd (let h : symbol_head f (suc (length (list_of ts))) ≡ port_head p = d.consistent.heads e refl refl in cc)
    compound-goes f t ts row there row_is b (constant {f = g} e i) r = absurd (let h : symbol_head f (suc (length (list_of ts))) ≡ symbol_head g 0 = d.consistent.heads e refl refl in let l : Is (suc (length (list_of ts))) 0 = cc in omega (arith, l))
    compound-goes f t ts row there row_is b {others = others} (compound {t = v} {ts = vs} {f = g} {name = name} {text = y} e i b' p) r =
        let o : IsOneSymbol E f g (more t ts) (more v vs) = one_symbol E d.consistent f g (more t ts) (more v vs) e in
        let m : name_of x.template f ≡ name = ap (name_of x.template) o.symbols ∙ named g name i in
        goes (compound_begun (name_of x.template f) row s) (symbol_text (name_of x.template f) ++ 40 ∷ []) s ((symbol_text name ++ 40 ∷ y ++ 41 ∷ []) ++ others) (y ++ (41 ∷ others)) a n refl
        (joins_compound (symbol_text name) y others ∙ ap (λ (z : List ℕ). (symbol_text z ++ 40 ∷ []) ++ (y ++ (41 ∷ others))) (sym m)) w
        (arguments-rest (more v vs) row (Byte 41 ∷ s.pieces) p (row-alike x E (more t ts) (more v vs) row o.arguments row_is) (byte r))
    compound-goes f t ts row there row_is b (cell {t = v} {u = u} {f = g} e i p q) r = absurd (not-cell symbols f g (name_of x.template f) t ts b there i (d.consistent.heads e refl refl))

    -- an element and the rest of its list
    cell-rest : (mark j i : ℕ) (t u v y : Tree) {k m o : Numbers} {front back others : List ℕ} → AlikeTrees (Equal E) (more t (more u none)) (more v (more y none)) → AreRow x E (more t (more u none)) (j ∷ i ∷ [])
        → AreNumbered x E k s.classes s.cycles → PrintsTree symbols E k v front m → PrintsListTail symbols E m y back o → Rest x E o s.pieces a others → GoesOn x E s (cell_begun mark j i s) ((mark ∷ front ++ back) ++ others) a
    cell-rest mark j i t u v y {k = k} {front = front} {back = back} {others = others} l r w' p q o =
        goes (cell_begun mark j i s) (mark ∷ []) s ((mark ∷ front ++ back) ++ others) (front ++ (back ++ others)) a k refl (joins_cell mark front back others) w'
        (whole r.0.1 (prints-equal E d.consistent symbols (joined (turned r.0.2) l.0) p) (tail r.1.0.1 (tail-equal E d.consistent symbols (joined (turned r.1.0.2) l.1.0) q) o))

    cell-goes : (f : ℕ) (t u : Tree) (j l : ℕ) → slice_get symbols f ≡ Some (codes ".") → AreRow x E (more t (more u none)) (j ∷ l ∷ [])
        → {m : Numbers} {text others : List ℕ} → WritesTree symbols E n (symbol f (more t (more u none))) text m → Rest x E m s.pieces a others → GoesOn x E s (cell_begun 91 j l s) (text ++ others) a
    cell-goes f t u j l there row (number {z = z} e) r = absurd (let h : symbol_head f 2 ≡ integer_head z = d.consistent.heads e refl refl in cc)
    cell-goes f t u j l there row (a_port {p = p} e) r = absurd (let h : symbol_head f 2 ≡ port_head p = d.consistent.heads e refl refl in cc)
    cell-goes f t u j l there row (constant {f = g} e i) r = absurd (let h : symbol_head f 2 ≡ symbol_head g 0 = d.consistent.heads e refl refl in let o : Is 2 0 = cc in omega (arith, o))
    cell-goes f t u j l there row (compound {t = v} {ts = vs} {f = g} {name = name} e i b p) r = absurd (not-cell symbols g f name v vs b i there (sym (d.consistent.heads e refl refl)))
    cell-goes f t u j l there row (cell {t = v} {u = y} {f = g} e i p q) r =
        let o : IsOneSymbol E f g (more t (more u none)) (more v (more y none)) = one_symbol E d.consistent f g (more t (more u none)) (more v (more y none)) e in
        cell-rest 91 j l t u v y o.arguments row w p q r

    -- a symbol with its arguments is written out
    symbol-goes : (i f : ℕ) (ts : Trees) (row : List ℕ) → At i (symbol f ts) → AreRow x E ts row → {m : Numbers} {text others : List ℕ} → WritesTree symbols E n (symbol f ts) text m → Rest x E m s.pieces a others
        → GoesOn x E s (symbol_begun (name_of x.template f) row s) (text ++ others) a
    symbol-goes i f none [] p k q r = constant-goes f q r
    symbol-goes i f none (j ∷ js) p k q r = absurd k
    symbol-goes i f (more t ts) [] p k q r = absurd k
    symbol-goes i f (more t none) (j ∷ []) p k q r = compound-goes f t none (j ∷ []) (name-there i f (more t none) p) k refl q r
    symbol-goes i f (more t none) (j ∷ l ∷ js) p k q r = absurd k.1
    symbol-goes i f (more t (more u us)) (j ∷ []) p k q r = absurd k.1
    symbol-goes i f (more t (more u none)) (j ∷ l ∷ []) p k {text = text} {others = others} q r = on (bytes_eq (name_of x.template f) (codes ".")) refl
      where
        on : (b : Bool) → bytes_eq (name_of x.template f) (codes ".") ≡ b → GoesOn x E s (cond b (cell_begun 91 j l s) (compound_begun (name_of x.template f) (j ∷ l ∷ []) s)) (text ++ others) a
        on true e = cell-goes f t u j l (name-there i f (more t (more u none)) p ∙ ap Some ((bytes_eq-Decides (name_of x.template f) (codes ".")).0 e)) k q r
        on false e = compound-goes f t (more u none) (j ∷ l ∷ []) (name-there i f (more t (more u none)) p) k e q r
    symbol-goes i f (more t (more u none)) (j ∷ l ∷ m ∷ js) p k q r = absurd k.1.1
    symbol-goes i f (more t (more u (more v vs))) (j ∷ l ∷ []) p k q r = absurd k.1.1
    symbol-goes i f (more t (more u (more v vs))) (j ∷ l ∷ m ∷ js) p k q r = compound-goes f t (more u (more v vs)) (j ∷ l ∷ m ∷ js) (name-there i f (more t (more u (more v vs))) p) k refl q r

    -- a tail that ends its list with a tree
    partial-goes : (i : ℕ) (t : Tree) → At i t → IsLastTail symbols E t → {m : Numbers} {text others : List ℕ} → PrintsListTail symbols E n t text m → Rest x E m s.pieces a others → GoesOn x E s (partial_begun i s) (text ++ others) a
    partial-goes i t p o (ends e k) r = absurd (end-other symbols E d.consistent (self i t p) e k o)
    partial-goes i t p o (element y e k q q') r = absurd (last-other symbols E d.consistent (self i t p) y e k o)
    partial-goes i t p o {others = others} (partial {text = y} o' q) r =
        goes (partial_begun i s) (124 ∷ []) s ((124 ∷ y ++ 93 ∷ []) ++ others) (y ++ (93 ∷ others)) a n refl (joins_partial y others) w (whole p q (byte r))

    other : (i f : ℕ) (ts : Trees) → At i (symbol f ts) → (Continues symbols f ts → ⊥) → IsLastTail symbols E (symbol f ts)
    other i f ts p h = inl (other-symbol symbols E (forest_graph x) (class_of x) _ (cyclic_at x) d.consistent d.decided.graph d.decided.stable d.decided.fair d.decided.ranked d.decided.names f ts h)

    element-goes : (i f : ℕ) (t u : Tree) (j l : ℕ) → At i (symbol f (more t (more u none))) → (IsCyclic E (symbol f (more t (more u none))) → ⊥) → slice_get symbols f ≡ Some (codes ".") → AreRow x E (more t (more u none)) (j ∷ l ∷ [])
        → {m : Numbers} {text others : List ℕ} → PrintsListTail symbols E n (symbol f (more t (more u none))) text m → Rest x E m s.pieces a others → GoesOn x E s (cell_begun 44 j l s) (text ++ others) a
    element-goes i f t u j l at y there row (ends {f = g} e k) r = absurd (let h : symbol_head f 2 ≡ symbol_head g 0 = d.consistent.heads e refl refl in let o : Is 2 0 = cc in omega (arith, o))
    element-goes i f t u j l at y there row (element {t = v} {u = z} {f = g} y' e k p q) r =
        let o : IsOneSymbol E f g (more t (more u none)) (more v (more z none)) = one_symbol E d.consistent f g (more t (more u none)) (more v (more z none)) e in
        cell-rest 44 j l t u v z o.arguments row w p q r
    element-goes i f t u j l at y there row (partial o q) r = absurd (last-other symbols E d.consistent (self i _ at) y same there o)

    end-goes : (i f : ℕ) → At i (symbol f none) → slice_get symbols f ≡ Some (codes "[]") → {m : Numbers} {text others : List ℕ} → PrintsListTail symbols E n (symbol f none) text m → Rest x E m s.pieces a others
        → GoesOn x E s (with_bytes (93 ∷ []) s) (text ++ others) a
    end-goes i f at there {others = others} (ends e k) r = goes (with_bytes (93 ∷ []) s) (93 ∷ []) s (93 ∷ others) others a n refl refl w r
    end-goes i f at there (element {f = g} y e k p q) r = absurd (let h : symbol_head f 0 ≡ symbol_head g 2 = d.consistent.heads e refl refl in let o : Is 0 2 = cc in omega (arith, o))
    end-goes i f at there (partial o q) r = absurd (end-other symbols E d.consistent (self i _ at) same there o)

    symbol-tail-goes : (i f : ℕ) (ts : Trees) (row : List ℕ) → At i (symbol f ts) → (IsCyclic E (symbol f ts) → ⊥) → AreRow x E ts row → {m : Numbers} {text others : List ℕ} → PrintsListTail symbols E n (symbol f ts) text m
        → Rest x E m s.pieces a others → GoesOn x E s (symbol_tail_begun (name_of x.template f) row i s) (text ++ others) a
    symbol-tail-goes i f none [] p y k {text = text} {others = others} q r = on (bytes_eq (name_of x.template f) (codes "[]")) refl
      where
        on : (b : Bool) → bytes_eq (name_of x.template f) (codes "[]") ≡ b → GoesOn x E s (cond b (with_bytes (93 ∷ []) s) (partial_begun i s)) (text ++ others) a
        on true e = end-goes i f p (name-there i f none p ∙ ap Some ((bytes_eq-Decides (name_of x.template f) (codes "[]")).0 e)) q r
        on false e = partial-goes i _ p (other i f none p (λ o. not-named f (codes "[]") refl (name-there i f none p) e o)) q r
    symbol-tail-goes i f none (j ∷ js) p y k q r = absurd k
    symbol-tail-goes i f (more t ts) [] p y k q r = absurd k
    symbol-tail-goes i f (more t none) (j ∷ []) p y k q r = partial-goes i _ p (other i f (more t none) p (λ o. o)) q r
    symbol-tail-goes i f (more t none) (j ∷ l ∷ js) p y k q r = absurd k.1
    symbol-tail-goes i f (more t (more u us)) (j ∷ []) p y k q r = absurd k.1
    symbol-tail-goes i f (more t (more u none)) (j ∷ l ∷ []) p y k {text = text} {others = others} q r = on (bytes_eq (name_of x.template f) (codes ".")) refl
      where
        on : (b : Bool) → bytes_eq (name_of x.template f) (codes ".") ≡ b → GoesOn x E s (cond b (cell_begun 44 j l s) (partial_begun i s)) (text ++ others) a
        on true e = element-goes i f t u j l p y (name-there i f (more t (more u none)) p ∙ ap Some ((bytes_eq-Decides (name_of x.template f) (codes ".")).0 e)) k q r
        on false e = partial-goes i _ p (other i f (more t (more u none)) p (λ o. not-named f (codes ".") refl (name-there i f (more t (more u none)) p) e o)) q r
    symbol-tail-goes i f (more t (more u none)) (j ∷ l ∷ m ∷ js) p y k q r = absurd k.1.1
    symbol-tail-goes i f (more t (more u (more v vs))) (j ∷ l ∷ []) p y k q r = absurd k.1.1
    symbol-tail-goes i f (more t (more u (more v vs))) (j ∷ l ∷ m ∷ js) p y k q r = partial-goes i _ p (other i f (more t (more u (more v vs))) p (λ o. o)) q r

    -- by what a node begins with
    written-goes : (seen : Seen) (i b : ℕ) (row : List ℕ) → At i (seen_tree x.template.nodes seen) → row ≡ row_at x i → {m : Numbers} {text others : List ℕ} → WritesTree symbols E n (seen_tree x.template.nodes seen) text m → Rest x E m s.pieces a others
        → GoesOn x E s (written_begun x.template seen row b s) (text ++ others) a
    written-goes (Free v) i b row p e q r = absurd (writes-structured symbols E d.consistent q (free-node i v p))
    written-goes (Seen.Int z) i b row p e q r = integer-goes z q r
    written-goes (Seen.Port z) i b row p e q r = port-goes z q r
    written-goes (Seen.Struct f k c h) i b row p e q r =
        let ts : Trees = trees_from (λ j. tree x.template.nodes (Mol j h)) k c in
        symbol-goes i f ts row p (subst (λ (z : List ℕ). AreRow x E ts z) (sym e) (node-row x E d i f ts p)) q r

    class-goes : (seen : Seen) (i : ℕ) (row : List ℕ) → At i (seen_tree x.template.nodes seen) → IsFree E (seen_tree x.template.nodes seen) → {k : ℕ} {new : List Tree} {others : List ℕ}
        → IsNumbered (Equal E) n.classes (seen_tree x.template.nodes seen) k new → Rest x E (record n { classes = new }) s.pieces a others → GoesOn x E s (written_begun x.template seen row (class_of x i) s) (class_text k ++ others) a
    class-goes (Free v) i row p f {k = k} {new = new} {others = others} m r =
        let z : (k ≡ number_in s.classes (class_of x i)) × AreOfClasses x (Equal E) new (with_number s.classes (class_of x i)) = numbered-class x E d i (variable v) p f m s.classes w.are_classes in
        goes (class_printed (class_of x i) s) (class_text (number_in s.classes (class_of x i))) s (class_text k ++ others) others a (record n { classes = new }) refl (ap (λ (o : ℕ). class_text o ++ others) z.0)
        (record { are_classes = z.1; are_cycles = w.are_cycles }) r
    class-goes (Seen.Int z) i row p f m r = absurd (f.free (integer z) (integer_head z) same refl)
    class-goes (Seen.Port z) i row p f m r = absurd (f.free (port z) (port_head z) same refl)
    class-goes (Seen.Struct g k c h) i row p f m r = absurd (f.free (seen_tree x.template.nodes (Seen.Struct g k c h)) _ same refl)

    cycle-goes : (i : ℕ) (t : Tree) → At i t → {k : ℕ} {new : List Tree} {others : List ℕ} → IsNumbered (SameTree E) n.cycles t k new → Rest x E (record n { cycles = new }) s.pieces a others
        → GoesOn x E s (cycle_printed (class_of x i) s) (cycle_text k ++ others) a
    cycle-goes i t p {k = k} {new = new} {others = others} m r =
        let z : (k ≡ number_in s.cycles (class_of x i)) × AreOfClasses x (SameTree E) new (with_number s.cycles (class_of x i)) = numbered-cycle x E d i t p m s.cycles w.are_cycles in
        goes (cycle_printed (class_of x i) s) (cycle_text (number_in s.cycles (class_of x i))) s (cycle_text k ++ others) others a (record n { cycles = new }) refl (ap (λ (o : ℕ). cycle_text o ++ others) z.0)
        (record { are_classes = w.are_classes; are_cycles = z.1 }) r

    whole-goes : (i : ℕ) (t : Tree) → At i t → {m : Numbers} {text others : List ℕ} → PrintsTree symbols E n t text m → Rest x E m s.pieces a others → (b : Bool) → cyclic_at x i ≡ b
        → GoesOn x E s (cond b (cycle_printed (class_of x i) s) (written_begun x.template (seen_at x i) (row_at x i) (class_of x i) s)) (text ++ others) a
    whole-goes i t p (class f k) r true e = absurd (cyclic-structured E d.consistent (is-cyclic x E d i t p e) f)
    whole-goes i t p (cycle y k) r true e = cycle-goes i t p k r
    whole-goes i t p (plain y q) r true e = absurd (y (is-cyclic x E d i t p e))
    whole-goes i t p (class {k = k} {new = new} f m) r false e =
        let h : t ≡ seen_tree x.template.nodes (seen_at x i) = sym (node-term x i t p) in
        class-goes (seen_at x i) i (row_at x i) (subst (At i) h p) (subst (IsFree E) h f) (subst (λ (z : Tree). IsNumbered (Equal E) n.classes z k new) h m) r
    whole-goes i t p (cycle y k) r false e = absurd (not-cyclic x E d i t p e y)
    whole-goes i t p {m = m} {text = text} (plain y q) r false e =
        let h : t ≡ seen_tree x.template.nodes (seen_at x i) = sym (node-term x i t p) in
        written-goes (seen_at x i) i (class_of x i) (row_at x i) (subst (At i) h p) refl (subst (λ (z : Tree). WritesTree symbols E n z text m) h q) r

    plain-tail-goes : (seen : Seen) (i : ℕ) → At i (seen_tree x.template.nodes seen) → (IsCyclic E (seen_tree x.template.nodes seen) → ⊥) → {m : Numbers} {text others : List ℕ} → PrintsListTail symbols E n (seen_tree x.template.nodes seen) text m
        → Rest x E m s.pieces a others → GoesOn x E s (tail_begun x.template seen (row_at x i) i s) (text ++ others) a
    plain-tail-goes (Free v) i p y q r = partial-goes i (variable v) p (inl (free-other v i p)) q r
    plain-tail-goes (Seen.Int z) i p y q r = partial-goes i (integer z) p (inl (other-integer symbols E (forest_graph x) (class_of x) _ (cyclic_at x) d.consistent d.decided.graph d.decided.stable d.decided.fair d.decided.ranked d.decided.names z)) q r
    plain-tail-goes (Seen.Port z) i p y q r = partial-goes i (port z) p (inl (other-port symbols E (forest_graph x) (class_of x) _ (cyclic_at x) d.consistent d.decided.graph d.decided.stable d.decided.fair d.decided.ranked d.decided.names z)) q r
    plain-tail-goes (Seen.Struct f k c h) i p y q r =
        let ts : Trees = trees_from (λ j. tree x.template.nodes (Mol j h)) k c in
        symbol-tail-goes i f ts (row_at x i) p y (node-row x E d i f ts p) q r

    tail-goes : (i : ℕ) (t : Tree) → At i t → {m : Numbers} {text others : List ℕ} → PrintsListTail symbols E n t text m → Rest x E m s.pieces a others → (b : Bool) → cyclic_at x i ≡ b
        → GoesOn x E s (cond b (partial_begun i s) (tail_begun x.template (seen_at x i) (row_at x i) i s)) (text ++ others) a
    tail-goes i t p q r true e = partial-goes i t p (inr (is-cyclic x E d i t p e)) q r
    tail-goes i t p {m = m} {text = text} q r false e =
        let h : t ≡ seen_tree x.template.nodes (seen_at x i) = sym (node-term x i t p) in
        plain-tail-goes (seen_at x i) i (subst (At i) h p) (subst (λ (z : Tree). IsCyclic E z → ⊥) h (not-cyclic x E d i t p e)) (subst (λ (z : Tree). PrintsListTail symbols E n z text m) h q) r

  -- a piece is begun
  rest-goes : (s : State) (p : Piece) (a : Ahead) (n : Numbers) (text : List ℕ) → AreNumbered x E n s.classes s.cycles → Rest x E n (p ∷ s.pieces) a text → GoesOn x E s (begun x p s) text a
  rest-goes s (Byte b) a n text w (byte {text = others} r) = goes (with_bytes (b ∷ []) s) (b ∷ []) s (b ∷ others) others a n refl refl w r
  rest-goes s (Whole i) a n text w (whole {t = t} p q r) = whole-goes s a n w i t p q r (cyclic_at x i) refl
  rest-goes s (Tail i) a n text w (tail {t = t} p q r) = tail-goes s a n w i t p q r (cyclic_at x i) refl

  pub begun-goes : (s : State) (p : Piece) (a : Ahead) (text : List ℕ) → IsText x E (record s { pieces = p ∷ s.pieces }) a text → GoesOn x E (record s { pieces = p ∷ s.pieces }) (begun x p s) text a
  begun-goes s p a text w =
      let z : GoesOn x E s (begun x p s) text a = rest-goes s p a w.numbers text w.numbered w.rest in
      record { others = z.others; same = z.same; is_text = z.is_text }

  -- a line is begun
  pub line-goes : (s : State) (name : List ℕ) (t : Tree) (shown : List (List ℕ × Tree)) (i : ℕ) (text : List ℕ) → s.pieces ≡ [] → (u : Tree) × At i u × Equal E t u → IsText x E s (shown_lines ((name, t) ∷ shown)) text
      → GoesOn x E s (line_begun name i s) text (shown_lines shown)
  line-goes s name t shown i text none_left (u, p, q) w =
      from text (subst (λ (z : List Piece). Rest x E w.numbers z (shown_lines ((name, t) ∷ shown)) text) none_left w.rest)
    where
      from : (text : List ℕ) → Rest x E w.numbers [] (shown_lines ((name, t) ∷ shown)) text → GoesOn x E s (line_begun name i s) text (shown_lines shown)
      from text (lines (line {m = m} {text = y} {others = z} k r)) =
          goes (line_begun name i s) (name ++ codes " = ") s ((name ++ codes " = " ++ y) ++ (10 ∷ z)) (y ++ (10 ∷ z)) (shown_lines shown) w.numbers refl (append_assoc (name ++ codes " = ") y (10 ∷ z)) w.numbered
          (whole p (prints-equal E d.consistent symbols (turned q) k) (byte (subst (λ (v : List Piece). Rest x E m v (shown_lines shown) z) (sym none_left) (lines r))))

  stands-itself : StandFor (IsTold E) (IsTold E)
  stands-itself = record { to = λ c. c; back = λ c. c; same_to = λ c t u m. m; same_back = λ c t u m. m }

  alike-itself : (us : List Tree) → Alike (SameTree E) us us
  alike-itself [] = tt
  alike-itself (u ∷ us) = ((stands-correspond symbols E E stands-itself d.consistent).itself u, alike-itself us)

  -- the line of a cyclic tree is begun
  pub cycle-line-goes : (s : State) (k b : ℕ) (text : List ℕ) → s.pieces ≡ [] → slice_get s.cycles k ≡ Some b → IsText x E s (cycle_lines k) text → GoesOn x E s (cycle_begun x k b s) text (cycle_lines (suc k))
  cycle-line-goes s k b text none_left at w = from text (subst (λ (z : List Piece). Rest x E w.numbers z (cycle_lines k) text) none_left w.rest)
    where
      from : (text : List ℕ) → Rest x E w.numbers [] (cycle_lines k) text → GoesOn x E s (cycle_begun x k b s) text (cycle_lines (suc k))
      from text (lines (all_written e)) = absurd (
          let l : k < length s.cycles = slice_get_within s.cycles k b at in
          let m : length w.numbers.cycles ≡ length s.cycles = classes-length x (SameTree E) w.numbers.cycles s.cycles w.numbered.are_cycles in omega (arith, l, m, e))
      from text (lines (cycle_line {m = m} {s = u} {text = y} {others = z} e q r)) =
          let o : IsOfClass x (SameTree E) b u = class-at x (SameTree E) w.numbers.cycles s.cycles k b u w.numbered.are_cycles e at in
          let f : (v : Tree) × At (class_of x o.node) v × (class_of x (class_of x o.node) ≡ class_of x o.node) = d.first o.node o.term o.stands in
          let p : At b f.0 = subst (λ (j : ℕ). At j f.0) o.class f.1 in
          let h : class_of x o.node ≡ class_of x b = sym f.2 ∙ ap (class_of x) o.class in
          let sm : SameTree E u f.0 = Same-joined E d.consistent (Same-turned E d.consistent o.related) (same-class x E d o.node b o.term f.0 o.stands p h) in
          let v : (m' : Numbers) × WritesTree symbols E w.numbers f.0 y m' × AreAlike symbols E E stands-itself d.consistent m m' =
          writes-there symbols E E stands-itself d.consistent q (record { classes = alike-itself w.numbers.classes; cycles = alike-itself w.numbers.cycles }) sm in
          let i : f.0 ≡ seen_tree x.template.nodes (seen_at x b) = sym (node-term x b f.0 p) in
          let s1 : State = record (with_bytes (cycle_text k ++ codes " = ") s) { pieces = Byte 10 ∷ s.pieces } in
          let g : GoesOn x E s1 (cycle_begun x k b s) (y ++ (10 ∷ z)) (cycle_lines (suc k)) =
          written-goes s1 (cycle_lines (suc k)) w.numbers w.numbered (seen_at x b) b b (row_at x b) (subst (At b) i p) refl (subst (λ (c : Tree). WritesTree symbols E w.numbers c y v.0) i v.1)
          (byte (subst (λ (c : List Piece). Rest x E v.0 c (cycle_lines (suc k)) z) (sym none_left) (lines (cycles-there symbols E E stands-itself d.consistent r v.2)))) in
          record {
            others = g.others;
            same = g.same ∙ append_assoc s.out (cycle_text k ++ codes " = ") (y ++ (10 ∷ z)) ∙ ap (λ (c : List ℕ). s.out ++ c) (sym (append_assoc (cycle_text k ++ codes " = ") y (10 ∷ z)));
            is_text = g.is_text;
          }
