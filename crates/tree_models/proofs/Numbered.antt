-- Places in the order of the first visit of their classes.
use Rattle.std.proofs.Common.{◌≡◌, ◌≢◌, ◌<◌, ◌+◌, ℕ, zero, suc, Bool, true, false, List, [], ◌∷◌, ◌++◌, length, map, Some, refl, sym, ◌∙◌, ap, subst, ◌⊎◌, inl, inr, arith, append_assoc}
use Rattle.std.specs.Prelude.{◌==◌, if◌then◌else◌, slice_get}
use Rattle.std.proofs.lemmas.Bool.{eqb-true, eqb-false}
use Rattle.std.proofs.lemmas.List.{map-append}
use Rattle.tree_classes.specs.Numbers.{number_in}
use Rattle.tree_models.specs.Tables.{places_of}
use Rattle.tree_models.specs.declared.cell.Cell.{Cell}
use Rattle.tree_models.specs.Solutions.{Visits, nothing_left, met, first}
use Rattle.tree_models.specs.Visiting.{IsOne, class_of, row_of, VisitsNodes, all_visited, visited_before, new_class, place_by, AreCellsBy}

same_nat : (c : ℕ) → (c == c) ≡ true
same_nat c = on (c == c) refl
  where
    on : (t : Bool) → (c == c) ≡ t → t ≡ true
    on true e = refl
    on false e = absurd (eqb-false c c e refl)

-- what is in a list has its place there, whatever follows
pub index_before : (c : ℕ) (seen more : List ℕ) → IsOne c seen → number_in (seen ++ more) c < length seen
index_before c [] more m = absurd m
index_before c (d ∷ ds) more m = on (d == c) refl m (λ n. index_before c ds more n)
  where
    on : (t : Bool) → (d == c) ≡ t → (c ≡ d) ⊎ IsOne c ds → (IsOne c ds → number_in (ds ++ more) c < length ds) → (if t then 0 else suc (number_in (ds ++ more) c)) < suc (length ds)
    on true e n f = omega arith
    on false e (inl q) f = absurd (eqb-false d c e (sym q))
    on false e (inr n) f = let i : number_in (ds ++ more) c < length ds = f n in omega arith

-- and what isn't comes behind
pub index_behind : (c : ℕ) (seen more : List ℕ) → (IsOne c seen → ⊥) → number_in (seen ++ c ∷ more) c ≡ length seen
index_behind c [] more n = on (c == c) (same_nat c)
  where
    on : (t : Bool) → t ≡ true → (if t then 0 else suc (number_in more c)) ≡ 0
    on true e = refl
    on false e = cc
index_behind c (d ∷ ds) more n = on (d == c) refl (index_behind c ds more (λ m. n (inr m)))
  where
    on : (t : Bool) → (d == c) ≡ t → number_in (ds ++ c ∷ more) c ≡ length ds → (if t then 0 else suc (number_in (ds ++ c ∷ more) c)) ≡ suc (length ds)
    on true e i = absurd (n (inl (sym (eqb-true d c e))))
    on false e i = ap suc i

get_behind : (seen more : List ℕ) (c : ℕ) → slice_get (seen ++ c ∷ more) (length seen) ≡ Some c
get_behind [] more c = refl
get_behind (d ∷ ds) more c = get_behind ds more c

length_more : (xs : List ℕ) (x : ℕ) → length (xs ++ x ∷ []) ≡ suc (length xs)
length_more [] x = refl
length_more (y ∷ ys) x = ap suc (length_more ys x)

module _ (rows : List (List ℕ)) (firsts : List ℕ) where
  -- what was visited stays in front
  pub in_front : {seen agenda order : List ℕ} → VisitsNodes rows firsts seen agenda order → (more : List ℕ) × (order ≡ seen ++ more)
  in_front all_visited = ([], sym (Rattle.std.proofs.Common.append-nil _))
  in_front (visited_before m v) = in_front v
  in_front (new_class {seen = seen} {i = i} n v) = let w : (more : List ℕ) × (_ ≡ (seen ++ class_of firsts i ∷ []) ++ more) = in_front v in (class_of firsts i ∷ w.0, w.1 ∙ append_assoc seen (class_of firsts i ∷ []) w.0)

  module _ (order : List ℕ) (cells : List Cell) (k : AreCellsBy rows firsts order cells) where
    numbered_from : {seen agenda : List ℕ} → VisitsNodes rows firsts seen agenda order → Visits cells (length seen) (map (place_by firsts order) agenda) (length order)
    numbered_from all_visited = nothing_left
    numbered_from (visited_before {seen = seen} {i = i} {is = is} m v) = met at (numbered_from v)
      where
        front : (more : List ℕ) × (order ≡ seen ++ more)
        front = in_front v

        at : place_by firsts order i < length seen
        at = subst (λ (l : List ℕ). number_in l (class_of firsts i) < length seen) (sym front.1) (index_before (class_of firsts i) seen front.0 m)
    numbered_from (new_class {seen = seen} {i = i} {is = is} n v) = subst (λ (p : ℕ). Visits cells (length seen) (p ∷ map (place_by firsts order) is) (length order)) (sym at) (first cell.1 (further (numbered_from v)))
      where
        c : ℕ
        c = class_of firsts i

        w : (more : List ℕ) × (order ≡ (seen ++ class_of firsts i ∷ []) ++ more)
        w = in_front v

        whole : order ≡ seen ++ class_of firsts i ∷ w.0
        whole = w.1 ∙ append_assoc seen (class_of firsts i ∷ []) w.0

        at : place_by firsts order i ≡ length seen
        at = ap (λ (l : List ℕ). number_in l (class_of firsts i)) whole ∙ index_behind (class_of firsts i) seen w.0 n

        cell : (k : Cell) × (slice_get cells (length seen) ≡ Some k) × (places_of k ≡ map (place_by firsts order) (row_of rows (class_of firsts i)))
        cell = k.each (length seen) (class_of firsts i) (ap (λ (l : List ℕ). slice_get l (length seen)) whole ∙ get_behind seen w.0 (class_of firsts i))

        further : Visits cells (length (seen ++ class_of firsts i ∷ [])) (map (place_by firsts order) (row_of rows (class_of firsts i) ++ is)) (length order)
            → Visits cells (suc (length seen)) (places_of cell.0 ++ map (place_by firsts order) is) (length order)
        further z = subst (λ (m : ℕ). Visits cells m (places_of cell.0 ++ map (place_by firsts order) is) (length order)) (length_more seen (class_of firsts i))
            (subst (λ (ps : List ℕ). Visits cells (length (seen ++ class_of firsts i ∷ [])) ps (length order))
            (map-append (place_by firsts order) (row_of rows (class_of firsts i)) is ∙ ap (λ (ps : List ℕ). ps ++ map (place_by firsts order) is) (sym cell.2)) z)

  one_from : {seen agenda one another : List ℕ} → VisitsNodes rows firsts seen agenda one → VisitsNodes rows firsts seen agenda another → one ≡ another
  one_from all_visited all_visited = refl
  one_from (visited_before m v) (visited_before n w) = one_from v w
  one_from (new_class m v) (new_class n w) = one_from v w
  one_from (visited_before m v) (new_class n w) = absurd (n m)
  one_from (new_class m v) (visited_before n w) = absurd (m n)

pub numbered : (rows : List (List ℕ)) (firsts starts order : List ℕ) (cells : List Cell) → VisitsNodes rows firsts [] starts order → AreCellsBy rows firsts order cells
    → Visits cells 0 (map (place_by firsts order) starts) (length order)
numbered rows firsts starts order cells v k = numbered_from rows firsts order cells k v

pub one_order : (rows : List (List ℕ)) (firsts starts one another : List ℕ) → VisitsNodes rows firsts [] starts one → VisitsNodes rows firsts [] starts another → one ≡ another
one_order rows firsts starts one another v w = one_from rows firsts v w
