-- A node is found or made, and the graph that is built goes on.
use Rattle.std.proofs.Common.{◌≡◌, ℕ, ◌+◌, List, [], ◌∷◌, ◌++◌, length, Some, None, refl, sym, ◌∙◌, ap, subst, inl, inr, arith, Bool, true, false, cond, length-append}
use Rattle.std.specs.Prelude.{◌⊎◌, slice_get}
use Rattle.std.proofs.lemmas.Bool.{cases_Bool}
use Rattle.std.proofs.lemmas.Bool.Decides.{nat_tests}
use Rattle.akl_terms.specs.declared.program.ShownTerm.{ShownTerm}
use Rattle.akl_terms.specs.declared.term.Node.{Node}
use Rattle.akl_terms.specs.declared.term.Seen.{Seen}
use Rattle.akl_terms.specs.declared.term.Seen.TheVariants.{Free}
use Rattle.akl_terms.specs.declared.term.Term.{Term}
use Rattle.akl_terms.specs.declared.term.Term.TheVariants.{Mol}
use Rattle.akl_terms.specs.Tree.{Tree}
use Rattle.akl_terms.specs.Template.{Template, tree, tree_at, tree_seen, IsArranged, IsKnown, seen_of}
use Rattle.akl_terms.proofs.Numbering.{slice_get-front, slice_get-behind, slice_get-one_more}
use Rattle.akl_terms.proofs.Unfolding.{tree-struct}
use Rattle.answer_text.specs.Pieces.{IsShort}
use Rattle.term_graph.specs.declared.place.Place.{Place}
use Rattle.term_graph.specs.Building.{State, seen_tree, place_of, same_place, found, BeginsSo, IsBuilding, Grows, IsEndAt, IsEndSeen, IsNumbered, IsPlaced, known, indexed, leaf, argument_of, count_of, IsRowBefore, AreEndsBefore}

-- a term's tree is that of what it begins with
pub seen-tree : (nodes : List Node) → IsArranged nodes → (t : Term) → tree nodes t ≡ seen_tree nodes (seen_of nodes t)
seen-tree nodes h (Term.Int z) = refl
seen-tree nodes h (Term.Port p) = refl
seen-tree nodes h (Mol i f) = from (seen_of nodes (Mol i f)) refl
  where
    from : (s : Seen) → seen_of nodes (Mol i f) ≡ s → tree nodes (Mol i f) ≡ seen_tree nodes s
    from (Free x) e = ap (tree_seen (tree_at i nodes f)) e
    from (Seen.Int z) e = ap (tree_seen (tree_at i nodes f)) e
    from (Seen.Port p) e = ap (tree_seen (tree_at i nodes f)) e
    from (Seen.Struct s k n g) e = tree-struct nodes h (Mol i f) s k n g e

same_place-equal : (a b : Place) → same_place a b ≡ true → a ≡ b
same_place-equal a b e =
    let p : a.symbol ≡ b.symbol = grind (arith, nat_tests) in
    let q : a.first ≡ b.first = grind (arith, nat_tests) in
    let r : a.count ≡ b.count = grind (arith, nat_tests) in
    let v : a.frame.worker ≡ b.frame.worker = grind (arith, nat_tests) in
    let w : a.frame.number ≡ b.frame.number = grind (arith, nat_tests) in
    λ i. record { symbol = p i; first = q i; count = r i; frame = record { worker = v i; number = w i } }

abbrev pub seen_at : Place → Seen
seen_at p = Seen.Struct p.symbol p.first p.count p.frame

pub place-seen : (seen : Seen) (p : Place) → place_of seen ≡ Some p → seen ≡ seen_at p
place-seen (Free x) p e = absurd cc
place-seen (Seen.Int z) p e = absurd cc
place-seen (Seen.Port q) p e = absurd cc
place-seen (Seen.Struct s i n f) p e = let o : record { symbol = s; first = i; count = n; frame = f } ≡ p = (let q : Some (record { symbol = s; first = i; count = n; frame = f }) ≡ Some p = e in cc) in ap seen_at o

pub end-grows : {t : Template} {go : Tree → Tree} {old new : List Seen} {i : ℕ} {u : Tree} → Grows old new → IsEndAt t go old i u → IsEndAt t go new i u
end-grows {i = i} g e = record { seen = e.seen; begins = g.stays i e.seen e.begins; is = e.is }

pub grows-same : (seens : List Seen) → Grows seens seens
grows-same seens = record { stays = λ i seen b. b }

pub grows-on : {old middle new : List Seen} → Grows old middle → Grows middle new → Grows old new
grows-on g h = record { stays = λ i seen b. h.stays i seen (g.stays i seen b) }

pub row-grows : {t : Template} {go : Tree → Tree} {old new : List Seen} {seen : Seen} {row : List ℕ} {n : ℕ} → Grows old new → IsRowBefore t go old seen row n → IsRowBefore t go new seen row n
row-grows g r = record { size = r.size; each = λ k j a. end-grows g (r.each k j a) }

pub ends-grow : {t : Template} {go : Tree → Tree} {old new : List Seen} {shown : List ShownTerm} {nodes : List ℕ} {n : ℕ} → Grows old new → AreEndsBefore t go old shown nodes n → AreEndsBefore t go new shown nodes n
ends-grow g r = record { size = r.size; each = λ k i line a b. end-grows g (r.each k i line a b) }

module _ (t : Template) (go : Tree → Tree) (old : State) (b : IsBuilding t go old) (seen : Seen) (u : Tree) (e : IsEndSeen t go u seen) where
  module _ (new : State) (i : ℕ) (at : i ≡ length old.seens) (more : new.seens ≡ old.seens ++ seen ∷ []) where
    last : BeginsSo new.seens i seen
    last = ap (λ (xs : List Seen). slice_get xs i) more ∙ ap (slice_get (old.seens ++ seen ∷ [])) at ∙ slice_get-behind old.seens seen

    front : (j : ℕ) (s : Seen) → BeginsSo old.seens j s → BeginsSo new.seens j s
    front j s a = ap (λ (xs : List Seen). slice_get xs j) more ∙ slice_get-front old.seens (seen ∷ []) j s a

    either : (j : ℕ) (s : Seen) → BeginsSo new.seens j s → BeginsSo old.seens j s ⊎ (s ≡ seen)
    either j s a = elim (slice_get-one_more old.seens seen j s (sym (ap (λ (xs : List Seen). slice_get xs j) more) ∙ a)) [ inl h ↦ inl h | inr h ↦ inr h.1 ]

    pushed : ((p : Place) (j : ℕ) → found new.index p ≡ Some j → BeginsSo new.seens j (seen_at p)) → IsNumbered t go old new i u
    pushed places = record {
      building = record {
        end = λ j s a. elim (either j s a) [ inl h ↦ b.end j s h | inr h ↦ (u, ap (seen_tree t.nodes) h ∙ e.is) ];
        known = λ j s a. elim (either j s a) [ inl h ↦ b.known j s h | inr h ↦ subst (IsKnown t) (sym h) e.known ];
        short = λ j s a. elim (either j s a) [ inl h ↦ b.short j s h | inr h ↦ subst IsShort (sym h) e.short ];
        places = places;
      };
      grows = record { stays = front };
      node = record { seen = seen; begins = last; is = e.is };
      adds = λ j s a. elim (either j s a) [ inl h ↦ inl h | inr h ↦ inr (ap (seen_tree t.nodes) h ∙ e.is) ];
    }

    on-leaf : new.index ≡ old.index → IsNumbered t go old new i u
    on-leaf same = pushed (λ p j f. front j (seen_at p) (b.places p j (sym (ap (λ (es : List (Place × ℕ)). found es p) same) ∙ f)))

    on-indexed : (place : Place) → place_of seen ≡ Some place → ((p : Place) → found new.index p ≡ cond (same_place place p) (Some i) (found old.index p)) → IsNumbered t go old new i u
    on-indexed place q v = pushed (λ p j f. from p j (cases_Bool (same_place place p)) f)
      where
        from : (p : Place) (j : ℕ) → (same_place place p ≡ true) ⊎ (same_place place p ≡ false) → found new.index p ≡ Some j → BeginsSo new.seens j (seen_at p)
        from p j (inl y) f =
            let z : Some i ≡ Some j = sym (ap (λ (o : Bool). cond o (Some i) (found old.index p)) y) ∙ sym (v p) ∙ f in
            let o : i ≡ j = cc in
            ap (slice_get new.seens) (sym o) ∙ last ∙ ap Some (place-seen seen place q ∙ ap seen_at (same_place-equal place p y))
        from p j (inr n) f = front j (seen_at p) (b.places p j (sym (ap (λ (o : Bool). cond o (Some i) (found old.index p)) n) ∙ sym (v p) ∙ f))

  pub numbered : (new : State) (i : ℕ) → IsPlaced old new seen i → IsNumbered t go old new i u
  numbered new i (known {place = place} q f same) = subst (λ (s : State). IsNumbered t go old s i u) (sym same) (record {
    building = b;
    grows = grows-same old.seens;
    node = record { seen = seen; begins = b.places place i f ∙ ap Some (sym (place-seen seen place q)); is = e.is };
    adds = λ j s a. inl a;
  })
  numbered new i (indexed {place = place} q at more v) = on-indexed new i at more place q v
  numbered new i (leaf at more same) = on-leaf new i at more same

-- ---- rows
pub row-none : (t : Template) (go : Tree → Tree) (seens : List Seen) (seen : Seen) → IsRowBefore t go seens seen [] 0
row-none t go seens seen = record { size = refl; each = λ k j a. absurd cc }

pub row-more : (t : Template) (go : Tree → Tree) (old new : List Seen) (seen : Seen) (row : List ℕ) (n node : ℕ) → IsRowBefore t go old seen row n → Grows old new → IsEndAt t go new node (argument_of t.nodes seen n) → IsRowBefore t go new seen (row ++ node ∷ []) (n + 1)
row-more t go old new seen row n node r g e = record {
  size = length-append row (node ∷ []) ∙ ap (λ (m : ℕ). m + 1) r.size;
  each = λ k j a. elim (slice_get-one_more row node k j a) [
    | inl h ↦ end-grows g (r.each k j h)
    | inr h ↦ subst (λ (i : ℕ). IsEndAt t go new i (argument_of t.nodes seen k)) (sym h.1) (subst (λ (m : ℕ). IsEndAt t go new node (argument_of t.nodes seen m)) (sym (h.0 ∙ r.size)) e)
  ];
}

-- an argument of a symbol, by its place
pub argument-is : (t : Template) (seen : Seen) (p : Place) (k : ℕ) → place_of seen ≡ Some p → argument_of t.nodes seen k ≡ tree t.nodes (Mol (p.first + k) p.frame)
argument-is t seen p k e = ap (λ (s : Seen). argument_of t.nodes s k) (place-seen seen p e)

pub count-is : (seen : Seen) (p : Place) → place_of seen ≡ Some p → count_of seen ≡ p.count
count-is seen p e = ap count_of (place-seen seen p e)

pub count-none : (seen : Seen) → place_of seen ≡ None → count_of seen ≡ 0
count-none (Free x) e = refl
count-none (Seen.Int z) e = refl
count-none (Seen.Port p) e = refl
count-none (Seen.Struct s i n f) e = absurd cc
