-- The rows of a graph that is built.
use Rattle.std.proofs.Common.{◌≡◌, ℕ, ◌+◌, ◌<◌, ◌≤◌, List, [], ◌∷◌, ◌++◌, length, Some, refl, sym, ◌∙◌, ap, subst, inl, inr, arith, length-append}
use Rattle.std.specs.Prelude.{◌⊎◌, slice_get, get_or}
use Rattle.std.proofs.lemmas.Option.{slice_get_within, slice_get-get_or}
use Rattle.akl_terms.specs.declared.program.ShownTerm.{ShownTerm}
use Rattle.akl_terms.specs.declared.term.Seen.{Seen}
use Rattle.akl_terms.specs.Tree.{Tree}
use Rattle.akl_terms.specs.Template.{Template, tree}
use Rattle.akl_terms.proofs.Numbering.{slice_get-one_more}
use Rattle.term_graph.specs.Building.{State, BeginsSo, IsBuilding, Grows, IsEndAt, IsRowOf, IsTermGraph, AreEndsBefore}
use Rattle.term_graph.proofs.Places.{end-grows, row-grows}

-- rows of nodes, no more than there are nodes
pub record AreRows (t : Template) (go : Tree → Tree) (seens : List Seen) (rows : List (List ℕ)) : Type 0 where
  pub within : length rows ≤ length seens
  pub row : (i : ℕ) (seen : Seen) (row : List ℕ) → BeginsSo seens i seen → slice_get rows i ≡ Some row → IsRowOf t go seens seen row

pub rows-none : (t : Template) (go : Tree → Tree) (seens : List Seen) → AreRows t go seens []
rows-none t go seens = record { within = omega arith; row = λ i seen row a b. absurd cc }

pub rows-more : (t : Template) (go : Tree → Tree) (old new : List Seen) (rows : List (List ℕ)) (seen : Seen) (row : List ℕ) → AreRows t go old rows → Grows old new → BeginsSo old (length rows) seen → IsRowOf t go new seen row → AreRows t go new (rows ++ row ∷ [])
rows-more t go old new rows seen row r g b o = record {
  within = (let l : length rows < length new = slice_get_within new (length rows) seen (g.stays (length rows) seen b) in let e : length (rows ++ row ∷ []) ≡ length rows + 1 = length-append rows (row ∷ []) in omega (arith, l, e));
  row = λ i s w a c. from i s w a (slice_get-one_more rows row i w c);
}
  where
    from : (i : ℕ) (s : Seen) (w : List ℕ) → BeginsSo new i s → (slice_get rows i ≡ Some w) ⊎ ((i ≡ length rows) × (w ≡ row)) → IsRowOf t go new s w
    from i s w a (inl h) =
        let l : i < length rows = slice_get_within rows i w h in
        let m : length rows ≤ length old = r.within in
        let d : Seen = get_or old i s in
        let was : BeginsSo old i d = slice_get-get_or old i s (omega (arith, l, m)) in
        let same : d ≡ s = (let z : Some d ≡ Some s = sym (g.stays i d was) ∙ a in cc) in
        row-grows g (r.row i s w (was ∙ ap Some same) h)
    from i s w a (inr h) =
        let now : BeginsSo new i seen = ap (slice_get new) h.0 ∙ g.stays (length rows) seen b in
        let same : seen ≡ s = (let z : Some seen ≡ Some s = sym now ∙ a in cc) in
        subst (λ (v : List ℕ). IsRowOf t go new s v) (sym h.1) (subst (λ (v : Seen). IsRowOf t go new v row) same o)

pub rows-all : (t : Template) (go : Tree → Tree) (s : State) (rows : List (List ℕ)) → IsBuilding t go s → AreRows t go s.seens rows → length s.seens ≤ length rows → IsTermGraph t go s.seens rows
rows-all t go s rows b r l = record { size = (let m : length rows ≤ length s.seens = r.within in omega (arith, l, m)); end = b.end; known = b.known; row = r.row }

-- ---- the nodes of shown terms
pub ends-none : (t : Template) (go : Tree → Tree) (seens : List Seen) (shown : List ShownTerm) → AreEndsBefore t go seens shown [] 0
ends-none t go seens shown = record { size = refl; each = λ k i line a b. absurd cc }

pub ends-more : (t : Template) (go : Tree → Tree) (old new : List Seen) (shown : List ShownTerm) (nodes : List ℕ) (n node : ℕ) (line : ShownTerm) → AreEndsBefore t go old shown nodes n → Grows old new → slice_get shown n ≡ Some line → IsEndAt t go new node (tree t.nodes line.term)
    → AreEndsBefore t go new shown (nodes ++ node ∷ []) (n + 1)
ends-more t go old new shown nodes n node line r g e o = record {
  size = length-append nodes (node ∷ []) ∙ ap (λ (m : ℕ). m + 1) r.size;
  each = λ k i other a b. elim (slice_get-one_more nodes node k i a) [
    | inl h ↦ end-grows g (r.each k i other h b)
    | inr h ↦ (let at : k ≡ n = h.0 ∙ r.size in let same : line ≡ other = (let z : Some line ≡ Some other = sym e ∙ ap (slice_get shown) (sym at) ∙ b in cc) in
        subst (λ (j : ℕ). IsEndAt t go new j (tree t.nodes other.term)) (sym h.1) (subst (λ (v : ShownTerm). IsEndAt t go new node (tree t.nodes v.term)) same o))
  ];
}
