-- Each turn of the printer leads on.
use Rattle.std.proofs.Common.{◌≡◌, ℕ, ℤ, zero, suc, ◌+◌, ◌<◌, List, [], ◌∷◌, length, Option, Some, None, Bool, true, false, cond, refl, sym, ◌∙◌, ap, subst, arith}
use Rattle.std.specs.Prelude.{slice_get, bytes_eq, codes, unwrap_or, ◌&&◌, ◌==◌}
use Rattle.std.proofs.lemmas.Bool.{and_parts, eqb-true}
use Rattle.std.proofs.lemmas.Bool.Decides.{nat_tests}
use Rattle.std.proofs.lemmas.Slice.Eq.{bytes_eq-Decides}
use Rattle.std.proofs.lemmas.Option.{slice_get-get_or}
use Rattle.akl_terms.specs.declared.name.Name.{Name}
use Rattle.akl_terms.specs.declared.name.Var.{Var}
use Rattle.akl_terms.specs.declared.term.Node.{Node}
use Rattle.akl_terms.specs.declared.term.Term.{Term}
use Rattle.akl_terms.specs.declared.term.Term.TheVariants.{Mol}
use Rattle.akl_terms.specs.declared.term.Seen.{Seen}
use Rattle.akl_terms.specs.declared.term.Seen.TheVariants.{Free}
use Rattle.akl_terms.specs.Tree.{Tree, Trees, variable, integer, port, symbol, none, more, list_of, Head, head_of, integer_head, port_head, symbol_head}
use Rattle.akl_terms.specs.Equal.{Equations, Equal, IsConsistent}
use Rattle.akl_terms.specs.Template.{Template, IsKnown, seen_of, tree, tree_at, tree_seen, trees_from}
use Rattle.akl_terms.proofs.Unfolding.{tree-struct, length-trees_from}
use Rattle.answer_text.specs.Printed.{IsFree, is_cell, GoesOn, IsOtherTail}
use Rattle.answer_text.specs.Classes.{Represents}
use Rattle.answer_text.specs.Pieces.{State, Continues, Moves, AreEnds, StandsFor, Begins, name_of, names_cell, names_end, with_bytes, cell_pieces, symbol_begun, whole_begun, tail_begun, compound_begun}
use Rattle.answer_text.specs.SymbolText.{constant_text}
use Rattle.answer_text.specs.declared.piece.Piece.{Piece}
use Rattle.answer_text.specs.declared.piece.Piece.TheVariants.{Byte, Whole, Tail}
use Rattle.answer_text.proofs.Determined.{one_head}
use Rattle.answer_text.proofs.Turns.{class-goes, byte-goes, integer-goes, port-goes, constant-goes, AreEnds-with}
use Rattle.answer_text.proofs.Symbols.{cell-goes, compound-goes, end-goes, element-goes, partial-goes}

-- a term that begins with a variable, an integer or a port is that
tree-free : (nodes : List Node) (t : Term) (x : Var) → seen_of nodes t ≡ Free x → tree nodes t ≡ variable x
tree-free nodes (Mol i f) x e = ap (tree_seen (tree_at i nodes f)) e
tree-free nodes (Term.Int z) x e = cc
tree-free nodes (Term.Port p) x e = cc

tree-integer : (nodes : List Node) (t : Term) (z : ℤ) → seen_of nodes t ≡ Seen.Int z → tree nodes t ≡ integer z
tree-integer nodes (Mol i f) z e = ap (tree_seen (tree_at i nodes f)) e
tree-integer nodes (Term.Int y) z e = ap (tree_seen (λ (k : ℕ). integer y)) e
tree-integer nodes (Term.Port p) z e = cc

tree-port : (nodes : List Node) (t : Term) (p : Name) → seen_of nodes t ≡ Seen.Port p → tree nodes t ≡ port p
tree-port nodes (Mol i f) p e = ap (tree_seen (tree_at i nodes f)) e
tree-port nodes (Term.Int z) p e = cc
tree-port nodes (Term.Port q) p e = ap (tree_seen (λ (k : ℕ). port q)) e

-- the name of a symbol that is there
name-there : (t : Template) (n : ℕ) → n < length t.symbols → slice_get t.symbols n ≡ Some (name_of t n)
name-there t n h = on (slice_get t.symbols n) (slice_get-get_or t.symbols n [] h)
  where
    on : (o : Option (List ℕ)) {v : List ℕ} → o ≡ Some v → o ≡ Some (unwrap_or o [])
    on None e = cc
    on (Some w) e = refl

-- neighbouring nodes are a list cell by their number
is_cell-count : (name : List ℕ) (go : ℕ → Tree) (i k : ℕ) → is_cell name (trees_from go i k) ≡ names_cell name k
is_cell-count name go i zero = refl
is_cell-count name go i (suc zero) = refl
is_cell-count name go i (suc (suc zero)) = refl
is_cell-count name go i (suc (suc (suc k))) = let f : (suc (suc (suc k)) == 2) ≡ false = grind (arith, nat_tests) in ap (λ (b : Bool). b && bytes_eq name (codes ".")) (sym f)

cell-name : (name : List ℕ) (k : ℕ) → names_cell name k ≡ true → (k ≡ 2) × (name ≡ codes ".")
cell-name name k e = let p : ((k == 2) ≡ true) × (bytes_eq name (codes ".") ≡ true) = and_parts (k == 2) (bytes_eq name (codes ".")) e in (eqb-true k 2 p.0, (bytes_eq-Decides name (codes ".")).0 p.1)

end-name : (name : List ℕ) (k : ℕ) → names_end name k ≡ true → (k ≡ 0) × (name ≡ codes "[]")
end-name name k e = let p : ((k == 0) ≡ true) × (bytes_eq name (codes "[]") ≡ true) = and_parts (k == 0) (bytes_eq name (codes "[]")) e in (eqb-true k 0 p.0, (bytes_eq-Decides name (codes "[]")).0 p.1)

abbrev arguments_at : Template → Name → ℕ → ℕ → Trees
arguments_at t f i count = trees_from (λ k. tree t.nodes (Mol k f)) i count

two_arguments : (t : Template) (f : Name) (i : ℕ) → arguments_at t f i 2 ≡ more (tree t.nodes (Mol i f)) (more (tree t.nodes (Mol (i + 1) f)) none)
two_arguments t f i = ap (λ (k : ℕ). more (tree t.nodes (Mol i f)) (more (tree t.nodes (Mol k f)) none)) (omega arith)

symbol-goes : (t : Template) (E : Equations) → IsConsistent E → (s : State) (term : Term) (n i count : ℕ) (f : Name) (name : List ℕ) → slice_get t.symbols n ≡ Some name
    → Equal E (tree t.nodes term) (symbol n (arguments_at t f i count))
    → Continues t E (record s { pieces = Whole term ∷ s.pieces }) (symbol_begun name i count f s)
symbol-goes t E c s term n i zero f name is e = constant-goes t E c s term n name is e
symbol-goes t E c s term n i (suc m) f name is e = nonzero (suc m == 0) refl
  where
    inside : (b : Bool) → names_cell name (suc m) ≡ b
        → Continues t E (record s { pieces = Whole term ∷ s.pieces }) (cond b (record (with_bytes (91 ∷ []) s) { pieces = cell_pieces f i s.pieces }) (compound_begun name i (suc m) f s))
    inside true q =
        let w : (suc m ≡ 2) × (name ≡ codes ".") = cell-name name (suc m) q in
        let u : arguments_at t f i (suc m) ≡ more (tree t.nodes (Mol i f)) (more (tree t.nodes (Mol (i + 1) f)) none) = ap (arguments_at t f i) w.0 ∙ two_arguments t f i in
        cell-goes t E c s term n i f (is ∙ ap Some w.1) (subst (λ (ts : Trees). Equal E (tree t.nodes term) (symbol n ts)) u e)
    inside false q = compound-goes t E c s term n i m f name is (is_cell-count name (λ k. tree t.nodes (Mol k f)) i (suc m) ∙ q) e

    nonzero : (b : Bool) → (suc m == 0) ≡ b
        → Continues t E (record s { pieces = Whole term ∷ s.pieces }) (cond b (with_bytes (constant_text name) s)
        (cond (names_cell name (suc m)) (record (with_bytes (91 ∷ []) s) { pieces = cell_pieces f i s.pieces }) (compound_begun name i (suc m) f s)))
    nonzero true q = absurd (let h : suc m ≡ 0 = eqb-true (suc m) 0 q in omega (arith, h))
    nonzero false q = inside (names_cell name (suc m)) refl

-- what stands for a term is equal to it
reached : (t : Template) (E : Equations) (go : Tree → Tree) → Represents E go → (s : Term) (w : StandsFor t go s) (u : Tree) → tree t.nodes w.end ≡ u → Equal E (tree t.nodes s) u
reached t E go r s w u e = subst (λ (x : Tree). Equal E (tree t.nodes s) x) (sym w.goes ∙ e) (r.equal (tree t.nodes s))

whole-goes : (t : Template) (E : Equations) (go : Tree → Tree) → Represents E go → (s : State) (term : Term) (w : StandsFor t go term) → AreEnds go s.seen → (seen : Seen) → seen_of t.nodes w.end ≡ seen → IsKnown t seen
    → Continues t E (record s { pieces = Whole term ∷ s.pieces }) (whole_begun t seen s)
whole-goes t E go r s term w a (Free x) e k = class-goes t E go r s term x a (sym w.goes ∙ tree-free t.nodes w.end x e)
whole-goes t E go r s term w a (Seen.Int z) e k = integer-goes t E r.consistent s term z (reached t E go r term w (integer z) (tree-integer t.nodes w.end z e))
whole-goes t E go r s term w a (Seen.Port p) e k = port-goes t E r.consistent s term p (reached t E go r term w (port p) (tree-port t.nodes w.end p e))
whole-goes t E go r s term w a (Seen.Struct n i count f) e k =
    symbol-goes t E r.consistent s term n i count f (name_of t n) (name-there t n k) (reached t E go r term w (symbol n (arguments_at t f i count)) (tree-struct t.nodes w.arranged w.end n i count f e))

-- a term that begins as no list is no tail of a list
other-head : (t : Template) (E : Equations) → IsConsistent E → (s u : Tree) (h : Head) → Equal E s u → head_of u ≡ Some h → ((f : ℕ) (ts : Trees) → GoesOn t.symbols f ts → symbol_head f (length (list_of ts)) ≡ h → ⊥) → IsOtherTail t.symbols E s
other-head t E c s u h e is differs = record { other = λ f ts q g. differs f ts g (one_head E c s (symbol f ts) u (symbol_head f (length (list_of ts))) h q e refl is) }

other-symbol : (t : Template) (n count : ℕ) (name : List ℕ) → slice_get t.symbols n ≡ Some name → names_end name count ≡ false → names_cell name count ≡ false
    → (f : ℕ) (ts : Trees) → GoesOn t.symbols f ts → symbol_head f (length (list_of ts)) ≡ symbol_head n count → ⊥
other-symbol t n count name is no_end no_cell f none g e =
    let fn : f ≡ n = cc in
    let z : 0 ≡ count = cc in
    let h : Some (codes "[]") ≡ Some name = sym g ∙ ap (slice_get t.symbols) fn ∙ is in
    let m : codes "[]" ≡ name = cc in
    let x : true ≡ false = subst (λ (k : ℕ). names_end (codes "[]") k ≡ false) (sym z) (subst (λ (y : List ℕ). names_end y count ≡ false) (sym m) no_end) in absurd cc
other-symbol t n count name is no_end no_cell f (more u none) g e = absurd g
other-symbol t n count name is no_end no_cell f (more u (more v none)) g e =
    let fn : f ≡ n = cc in
    let z : 2 ≡ count = cc in
    let h : Some (codes ".") ≡ Some name = sym g ∙ ap (slice_get t.symbols) fn ∙ is in
    let m : codes "." ≡ name = cc in
    let x : true ≡ false = subst (λ (k : ℕ). names_cell (codes ".") k ≡ false) (sym z) (subst (λ (y : List ℕ). names_cell y count ≡ false) (sym m) no_cell) in absurd cc
other-symbol t n count name is no_end no_cell f (more u (more v (more y ys))) g e = absurd g

other-free : (t : Template) (E : Equations) (s : Tree) → IsFree E s → IsOtherTail t.symbols E s
other-free t E s free = record { other = λ f ts q g. free.free (symbol f ts) (symbol_head f (length (list_of ts))) q refl }

tail-goes : (t : Template) (E : Equations) (go : Tree → Tree) → Represents E go → (s : State) (term : Term) (w : StandsFor t go term) → (seen : Seen) → seen_of t.nodes w.end ≡ seen → IsKnown t seen
    → Continues t E (record s { pieces = Tail term ∷ s.pieces }) (tail_begun t term seen s)
tail-goes t E go r s term w (Free x) e k = partial-goes t E r.consistent s term (other-free t E (tree t.nodes term) (r.free (tree t.nodes term) x (sym w.goes ∙ tree-free t.nodes w.end x e)))
tail-goes t E go r s term w (Seen.Int z) e k = partial-goes t E r.consistent s term
    (other-head t E r.consistent (tree t.nodes term) (integer z) (integer_head z) (reached t E go r term w (integer z) (tree-integer t.nodes w.end z e)) refl (λ f ts g h. cc))
tail-goes t E go r s term w (Seen.Port p) e k = partial-goes t E r.consistent s term
    (other-head t E r.consistent (tree t.nodes term) (port p) (port_head p) (reached t E go r term w (port p) (tree-port t.nodes w.end p e)) refl (λ f ts g h. cc))
tail-goes t E go r s term w (Seen.Struct n i count f) e k = by_end (names_end (name_of t n) count) refl
  where
    is : slice_get t.symbols n ≡ Some (name_of t n)
    is = name-there t n k

    q : Equal E (tree t.nodes term) (symbol n (arguments_at t f i count))
    q = reached t E go r term w (symbol n (arguments_at t f i count)) (tree-struct t.nodes w.arranged w.end n i count f e)

    by_cell : names_end (name_of t n) count ≡ false → (b : Bool) → names_cell (name_of t n) count ≡ b
        → Continues t E (record s { pieces = Tail term ∷ s.pieces }) (cond b (record (with_bytes (44 ∷ []) s) { pieces = cell_pieces f i s.pieces }) (record (with_bytes (124 ∷ []) s) { pieces = Whole term ∷ Byte 93 ∷ s.pieces }))
    by_cell no_end true h =
        let c : (count ≡ 2) × (name_of t n ≡ codes ".") = cell-name (name_of t n) count h in
        let u : arguments_at t f i count ≡ more (tree t.nodes (Mol i f)) (more (tree t.nodes (Mol (i + 1) f)) none) = ap (arguments_at t f i) c.0 ∙ two_arguments t f i in
        element-goes t E r.consistent s term n i f (is ∙ ap Some c.1) (subst (λ (ts : Trees). Equal E (tree t.nodes term) (symbol n ts)) u q)
    by_cell no_end false h = partial-goes t E r.consistent s term
        (other-head t E r.consistent (tree t.nodes term) (symbol n (arguments_at t f i count)) (symbol_head n (length (list_of (arguments_at t f i count)))) q refl
        (λ g ts z y. other-symbol t n count (name_of t n) is no_end h g ts z (y ∙ ap (λ (j : ℕ). symbol_head n j) (length-trees_from (λ j. tree t.nodes (Mol j f)) i count))))

    by_end : (b : Bool) → names_end (name_of t n) count ≡ b
        → Continues t E (record s { pieces = Tail term ∷ s.pieces }) (cond b (with_bytes (93 ∷ []) s)
        (cond (names_cell (name_of t n) count) (record (with_bytes (44 ∷ []) s) { pieces = cell_pieces f i s.pieces }) (record (with_bytes (124 ∷ []) s) { pieces = Whole term ∷ Byte 93 ∷ s.pieces })))
    by_end true h =
        let c : (count ≡ 0) × (name_of t n ≡ codes "[]") = end-name (name_of t n) count h in
        end-goes t E r.consistent s term n (is ∙ ap Some c.1) (subst (λ (j : ℕ). Equal E (tree t.nodes term) (symbol n (arguments_at t f i j))) c.0 q)
    by_end false h = by_cell h (names_cell (name_of t n) count) refl

-- the classes seen keep standing for themselves
symbol-ends : (go : Tree → Tree) (name : List ℕ) (i count : ℕ) (f : Name) (s : State) → AreEnds go s.seen → AreEnds go (symbol_begun name i count f s).seen
symbol-ends go name i count f s a = on (count == 0) (names_cell name count)
  where
    on : (b c : Bool) → AreEnds go (cond b (with_bytes (constant_text name) s) (cond c (record (with_bytes (91 ∷ []) s) { pieces = cell_pieces f i s.pieces }) (compound_begun name i count f s))).seen
    on true c = a
    on false true = a
    on false false = a

whole-ends : (t : Template) (E : Equations) (go : Tree → Tree) → Represents E go → (s : State) (term : Term) (w : StandsFor t go term) → AreEnds go s.seen → (seen : Seen) → seen_of t.nodes w.end ≡ seen
    → AreEnds go (whole_begun t seen s).seen
whole-ends t E go r s term w a (Free x) e = AreEnds-with E go r s.seen (tree t.nodes term) x a (sym w.goes ∙ tree-free t.nodes w.end x e)
whole-ends t E go r s term w a (Seen.Int z) e = a
whole-ends t E go r s term w a (Seen.Port p) e = a
whole-ends t E go r s term w a (Seen.Struct n i count f) e = symbol-ends go (name_of t n) i count f s a

tail-ends : (t : Template) (go : Tree → Tree) (s : State) (term : Term) → AreEnds go s.seen → (seen : Seen) → AreEnds go (tail_begun t term seen s).seen
tail-ends t go s term a (Free x) = a
tail-ends t go s term a (Seen.Int z) = a
tail-ends t go s term a (Seen.Port p) = a
tail-ends t go s term a (Seen.Struct n i count f) = on (names_end (name_of t n) count) (names_cell (name_of t n) count)
  where
    on : (b c : Bool) → AreEnds go (cond b (with_bytes (93 ∷ []) s) (cond c (record (with_bytes (44 ∷ []) s) { pieces = cell_pieces f i s.pieces }) (record (with_bytes (124 ∷ []) s) { pieces = Whole term ∷ Byte 93 ∷ s.pieces }))).seen
    on true c = a
    on false true = a
    on false false = a

-- a piece that is begun leads on
pub begins-moves : (t : Template) (go : Tree → Tree) (p : Piece) (old new : State) → Begins t go p old new → Moves t go (record old { pieces = p ∷ old.pieces }) new
begins-moves t go (Byte b) old new e = record {
  continues = λ E r a. subst (λ (x : State). Continues t E (record old { pieces = Byte b ∷ old.pieces }) x) (sym e) (byte-goes t E old b);
  ends = λ E r a. subst (λ (x : State). AreEnds go x.seen) (sym e) a;
}
begins-moves t go (Whole s) old new e = record {
  continues = λ E r a. subst (λ (x : State). Continues t E (record old { pieces = Whole s ∷ old.pieces }) x) (sym e.1) (whole-goes t E go r old s e.0 a (seen_of t.nodes e.0.end) refl e.0.known);
  ends = λ E r a. subst (λ (x : State). AreEnds go x.seen) (sym e.1) (whole-ends t E go r old s e.0 a (seen_of t.nodes e.0.end) refl);
}
begins-moves t go (Tail s) old new e = record {
  continues = λ E r a. subst (λ (x : State). Continues t E (record old { pieces = Tail s ∷ old.pieces }) x) (sym e.1) (tail-goes t E go r old s e.0 (seen_of t.nodes e.0.end) refl e.0.known);
  ends = λ E r a. subst (λ (x : State). AreEnds go x.seen) (sym e.1) (tail-ends t go old s a (seen_of t.nodes e.0.end));
}
