-- One turn of the printer at a symbol.
use Rattle.std.proofs.Common.{◌≡◌, ℕ, zero, suc, ◌+◌, List, [], ◌∷◌, ◌++◌, Some, false, refl, sym, ◌∙◌, ap, subst, append_assoc}
use Rattle.std.specs.Prelude.{slice_get, codes}
use Rattle.akl_terms.specs.declared.name.Name.{Name}
use Rattle.akl_terms.specs.declared.term.Term.{Term}
use Rattle.akl_terms.specs.declared.term.Term.TheVariants.{Mol}
use Rattle.akl_terms.specs.Tree.{Tree, Trees, symbol, none, more}
use Rattle.akl_terms.specs.Equal.{Equations, Equal, IsConsistent}
use Rattle.akl_terms.specs.Template.{Template, tree, trees_from}
use Rattle.answer_text.specs.SymbolText.{symbol_text}
use Rattle.answer_text.specs.Printed.{is_cell, IsOtherTail, compound, cell, PrintsAll, last, next, ends, element, partial}
use Rattle.answer_text.specs.Pieces.{State, Rest, byte, whole, tail, trees_of, Continues, argument_pieces, with_bytes, cell_pieces, compound_begun, partial_begun}
use Rattle.answer_text.specs.declared.piece.Piece.{Piece}
use Rattle.answer_text.specs.declared.piece.Piece.TheVariants.{Byte, Whole, Tail}
use Rattle.answer_text.proofs.Respects.{rest-alike}
use Rattle.answer_text.proofs.Determined.{IsCompoundText, IsCellText, IsPartialText, compound-only, cell-only, end-only, element-only, partial-only}

-- texts behind one another
joins_cell : (b : ℕ) (x y o : List ℕ) → (b ∷ x ++ y) ++ o ≡ (b ∷ []) ++ (x ++ (y ++ o))
joins_cell b x y o = ap (λ (z : List ℕ). b ∷ z) (append_assoc x y o)

-- what follows the first byte of a list cell
behind_cell : (t : Template) (E : Equations) (s : State) (i : ℕ) (f : Name) (begin : ℕ) (rest : List (List ℕ × Tree)) (front : List ℕ) (new : List Tree) (others : List ℕ)
    → IsCellText t.symbols E (trees_of s.seen) begin (tree t.nodes (Mol i f)) (tree t.nodes (Mol (i + 1) f)) front new → Rest t E new s.pieces rest others
    → (o : List ℕ) × (front ++ others ≡ (begin ∷ []) ++ o) × Rest t E (trees_of s.seen) (cell_pieces f i s.pieces) rest o
behind_cell t E s i f begin rest front new others w ps = (
  w.first ++ (w.rest ++ others),
  ap (λ (x : List ℕ). x ++ others) w.is ∙ joins_cell begin w.first w.rest others,
  whole w.prints (tail w.goes_on (rest-alike t E new w.after s.pieces rest others ps w.alike)),
)

pub cell-goes : (t : Template) (E : Equations) → IsConsistent E → (s : State) (term : Term) (n i : ℕ) (f : Name) → slice_get t.symbols n ≡ Some (codes ".")
    → Equal E (tree t.nodes term) (symbol n (more (tree t.nodes (Mol i f)) (more (tree t.nodes (Mol (i + 1) f)) none)))
    → Continues t E (record s { pieces = Whole term ∷ s.pieces }) (record (with_bytes (91 ∷ []) s) { pieces = cell_pieces f i s.pieces })
cell-goes t E c s term n i f is e = record { added = 91 ∷ []; out = refl; to = to; from = from }
  where
    a : Tree
    a = tree t.nodes (Mol i f)

    b : Tree
    b = tree t.nodes (Mol (i + 1) f)

    to : (rest : List (List ℕ × Tree)) (text : List ℕ) → Rest t E (trees_of s.seen) (cell_pieces f i s.pieces) rest text → Rest t E (trees_of s.seen) (Whole term ∷ s.pieces) rest ((91 ∷ []) ++ text)
    to rest text (whole {text = x} p (tail {text = y} {others = o} q r)) =
        subst (λ (z : List ℕ). Rest t E (trees_of s.seen) (Whole term ∷ s.pieces) rest z) (joins_cell 91 x y o) (whole (cell e is p q) r)

    from : (rest : List (List ℕ × Tree)) (text : List ℕ) → Rest t E (trees_of s.seen) (Whole term ∷ s.pieces) rest text
        → (o : List ℕ) × (text ≡ (91 ∷ []) ++ o) × Rest t E (trees_of s.seen) (cell_pieces f i s.pieces) rest o
    from rest text (whole {new = new} {text = front} {others = others} p ps) = behind_cell t E s i f 91 rest front new others (cell-only t.symbols E c (trees_of s.seen) new (tree t.nodes term) front n a b is e p) ps

-- the pieces of arguments are their text
pub arguments-to : (t : Template) (E : Equations) (f : Name) (m i : ℕ) (qs : List Piece) (seen : List Tree) (rest : List (List ℕ × Tree)) (whole_text : List ℕ)
    → Rest t E seen (argument_pieces f i (suc m) qs) rest whole_text
    → (text others : List ℕ) × (new : List Tree) × (whole_text ≡ text ++ others) × PrintsAll t.symbols E seen (trees_from (λ k. tree t.nodes (Mol k f)) i (suc m)) text new × Rest t E new qs rest others
arguments-to t E f zero i qs seen rest all (whole {new = new} {text = x} {others = o} p r) = (x, o, new, refl, last p, r)
arguments-to t E f (suc m) i qs seen rest all (whole {new = new} {text = x} p (byte {text = y} r)) =
    let w : (text others : List ℕ) × (n : List Tree) × (y ≡ text ++ others) × PrintsAll t.symbols E new (trees_from (λ k. tree t.nodes (Mol k f)) (suc i) (suc m)) text n × Rest t E n qs rest others =
    arguments-to t E f m (suc i) qs new rest y r in
    (x ++ 44 ∷ w.0, w.1, w.2, ap (λ (z : List ℕ). x ++ 44 ∷ z) w.3 ∙ sym (append_assoc x (44 ∷ w.0) w.1), next p w.4, w.5)

pub arguments-from : (t : Template) (E : Equations) (f : Name) (m i : ℕ) (qs : List Piece) (seen new : List Tree) (rest : List (List ℕ × Tree)) (text others : List ℕ)
    → PrintsAll t.symbols E seen (trees_from (λ k. tree t.nodes (Mol k f)) i (suc m)) text new → Rest t E new qs rest others → Rest t E seen (argument_pieces f i (suc m) qs) rest (text ++ others)
arguments-from t E f zero i qs seen new rest text others (last p) r = whole p r
arguments-from t E f (suc m) i qs seen new rest text others (next {middle = middle} {text = x} {others = y} p ps) r =
    subst (λ (z : List ℕ). Rest t E seen (argument_pieces f i (suc (suc m)) qs) rest z) (sym (append_assoc x (44 ∷ y) others))
    (whole p (byte (arguments-from t E f m (suc i) qs middle new rest y others ps r)))

joins_compound : (name x o : List ℕ) → (name ++ 40 ∷ x ++ 41 ∷ []) ++ o ≡ (name ++ 40 ∷ []) ++ (x ++ (41 ∷ o))
joins_compound name x o = append_assoc (name ++ 40 ∷ x) (41 ∷ []) o ∙ append_assoc name (40 ∷ x) (41 ∷ o) ∙ sym (append_assoc name (40 ∷ []) (x ++ (41 ∷ o)))

pub compound-goes : (t : Template) (E : Equations) → IsConsistent E → (s : State) (term : Term) (n i m : ℕ) (f : Name) (name : List ℕ) → slice_get t.symbols n ≡ Some name
    → is_cell name (trees_from (λ k. tree t.nodes (Mol k f)) i (suc m)) ≡ false
    → Equal E (tree t.nodes term) (symbol n (trees_from (λ k. tree t.nodes (Mol k f)) i (suc m)))
    → Continues t E (record s { pieces = Whole term ∷ s.pieces }) (compound_begun name i (suc m) f s)
compound-goes t E c s term n i m f name is no_cell e = record { added = symbol_text name ++ 40 ∷ []; out = refl; to = to; from = from }
  where
    us : Trees
    us = trees_from (λ k. tree t.nodes (Mol k f)) i (suc m)

    after : List Piece
    after = argument_pieces f i (suc m) (Byte 41 ∷ s.pieces)

    to : (rest : List (List ℕ × Tree)) (text : List ℕ) → Rest t E (trees_of s.seen) after rest text → Rest t E (trees_of s.seen) (Whole term ∷ s.pieces) rest ((symbol_text name ++ 40 ∷ []) ++ text)
    to rest text p = on (arguments-to t E f m i (Byte 41 ∷ s.pieces) (trees_of s.seen) rest text p)
      where
        on : (x others : List ℕ) × (new : List Tree) × (text ≡ x ++ others) × PrintsAll t.symbols E (trees_of s.seen) us x new × Rest t E new (Byte 41 ∷ s.pieces) rest others
            → Rest t E (trees_of s.seen) (Whole term ∷ s.pieces) rest ((symbol_text name ++ 40 ∷ []) ++ text)
        on w = close w.0 w.1 w.2 w.3 w.4 w.5
          where
            close : (x others : List ℕ) (new : List Tree) → text ≡ x ++ others → PrintsAll t.symbols E (trees_of s.seen) us x new → Rest t E new (Byte 41 ∷ s.pieces) rest others
                → Rest t E (trees_of s.seen) (Whole term ∷ s.pieces) rest ((symbol_text name ++ 40 ∷ []) ++ text)
            close x others new q ps (byte {text = o} r) =
                subst (λ (z : List ℕ). Rest t E (trees_of s.seen) (Whole term ∷ s.pieces) rest z) (joins_compound (symbol_text name) x o ∙ ap (λ (z : List ℕ). (symbol_text name ++ 40 ∷ []) ++ z) (sym q))
                (whole (compound e is no_cell ps) r)

    from : (rest : List (List ℕ × Tree)) (text : List ℕ) → Rest t E (trees_of s.seen) (Whole term ∷ s.pieces) rest text
        → (o : List ℕ) × (text ≡ (symbol_text name ++ 40 ∷ []) ++ o) × Rest t E (trees_of s.seen) after rest o
    from rest text (whole {new = new} {text = front} {others = others} p ps) =
        let w : IsCompoundText t.symbols E (trees_of s.seen) name us front new =
        compound-only t.symbols E c (trees_of s.seen) new (tree t.nodes term) front n name (tree t.nodes (Mol i f)) (trees_from (λ k. tree t.nodes (Mol k f)) (suc i) m) is no_cell e p in (
          w.arguments ++ (41 ∷ others),
          ap (λ (y : List ℕ). y ++ others) w.is ∙ joins_compound (symbol_text name) w.arguments others,
          arguments-from t E f m i (Byte 41 ∷ s.pieces) (trees_of s.seen) w.after rest w.arguments (41 ∷ others) w.prints (byte (rest-alike t E new w.after s.pieces rest others ps w.alike)),
        )

-- the end of a list
pub end-goes : (t : Template) (E : Equations) → IsConsistent E → (s : State) (term : Term) (n : ℕ) → slice_get t.symbols n ≡ Some (codes "[]") → Equal E (tree t.nodes term) (symbol n none)
    → Continues t E (record s { pieces = Tail term ∷ s.pieces }) (with_bytes (93 ∷ []) s)
end-goes t E c s term n is e = record { added = 93 ∷ []; out = refl; to = λ rest text p. tail (ends e is) p; from = from }
  where
    from : (rest : List (List ℕ × Tree)) (text : List ℕ) → Rest t E (trees_of s.seen) (Tail term ∷ s.pieces) rest text
        → (o : List ℕ) × (text ≡ (93 ∷ []) ++ o) × Rest t E (trees_of s.seen) s.pieces rest o
    from rest text (tail {new = new} {text = front} {others = others} p ps) =
        let w : (front ≡ 93 ∷ []) × (new ≡ trees_of s.seen) = end-only t.symbols E c (trees_of s.seen) new (tree t.nodes term) front n is e p in
        (others, ap (λ (x : List ℕ). x ++ others) w.0, subst (λ (x : List Tree). Rest t E x s.pieces rest others) w.1 ps)

-- the next element of a list
pub element-goes : (t : Template) (E : Equations) → IsConsistent E → (s : State) (term : Term) (n i : ℕ) (f : Name) → slice_get t.symbols n ≡ Some (codes ".")
    → Equal E (tree t.nodes term) (symbol n (more (tree t.nodes (Mol i f)) (more (tree t.nodes (Mol (i + 1) f)) none)))
    → Continues t E (record s { pieces = Tail term ∷ s.pieces }) (record (with_bytes (44 ∷ []) s) { pieces = cell_pieces f i s.pieces })
element-goes t E c s term n i f is e = record { added = 44 ∷ []; out = refl; to = to; from = from }
  where
    a : Tree
    a = tree t.nodes (Mol i f)

    b : Tree
    b = tree t.nodes (Mol (i + 1) f)

    to : (rest : List (List ℕ × Tree)) (text : List ℕ) → Rest t E (trees_of s.seen) (cell_pieces f i s.pieces) rest text → Rest t E (trees_of s.seen) (Tail term ∷ s.pieces) rest ((44 ∷ []) ++ text)
    to rest text (whole {text = x} p (tail {text = y} {others = o} q r)) =
        subst (λ (z : List ℕ). Rest t E (trees_of s.seen) (Tail term ∷ s.pieces) rest z) (joins_cell 44 x y o) (tail (element e is p q) r)

    from : (rest : List (List ℕ × Tree)) (text : List ℕ) → Rest t E (trees_of s.seen) (Tail term ∷ s.pieces) rest text
        → (o : List ℕ) × (text ≡ (44 ∷ []) ++ o) × Rest t E (trees_of s.seen) (cell_pieces f i s.pieces) rest o
    from rest text (tail {new = new} {text = front} {others = others} p ps) = behind_cell t E s i f 44 rest front new others (element-only t.symbols E c (trees_of s.seen) new (tree t.nodes term) front n a b is e p) ps

-- a tail that is no list
joins_partial : (x o : List ℕ) → (124 ∷ x ++ 93 ∷ []) ++ o ≡ (124 ∷ []) ++ (x ++ (93 ∷ o))
joins_partial x o = ap (λ (z : List ℕ). 124 ∷ z) (append_assoc x (93 ∷ []) o)

pub partial-goes : (t : Template) (E : Equations) → IsConsistent E → (s : State) (term : Term) → IsOtherTail t.symbols E (tree t.nodes term)
    → Continues t E (record s { pieces = Tail term ∷ s.pieces }) (partial_begun term s)
partial-goes t E c s term other = record { added = 124 ∷ []; out = refl; to = to; from = from }
  where
    to : (rest : List (List ℕ × Tree)) (text : List ℕ) → Rest t E (trees_of s.seen) (Whole term ∷ Byte 93 ∷ s.pieces) rest text → Rest t E (trees_of s.seen) (Tail term ∷ s.pieces) rest ((124 ∷ []) ++ text)
    to rest text (whole {text = x} p (byte {text = o} r)) =
        subst (λ (z : List ℕ). Rest t E (trees_of s.seen) (Tail term ∷ s.pieces) rest z) (joins_partial x o) (tail (partial other p) r)

    from : (rest : List (List ℕ × Tree)) (text : List ℕ) → Rest t E (trees_of s.seen) (Tail term ∷ s.pieces) rest text
        → (o : List ℕ) × (text ≡ (124 ∷ []) ++ o) × Rest t E (trees_of s.seen) (Whole term ∷ Byte 93 ∷ s.pieces) rest o
    from rest text (tail {new = new} {text = front} {others = others} p ps) =
        let w : IsPartialText t.symbols E (trees_of s.seen) (tree t.nodes term) front new = partial-only t.symbols E c (trees_of s.seen) new (tree t.nodes term) front other p in
        (w.whole ++ (93 ∷ others), ap (λ (x : List ℕ). x ++ others) w.is ∙ joins_partial w.whole others, whole w.prints (byte ps))
