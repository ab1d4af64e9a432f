-- The lines of the places that are reached.
use Rattle.std.proofs.Common.{◌≡◌, ◌<◌, ◌≤◌, ◌+◌, ℕ, zero, suc, List, [], ◌∷◌, ◌++◌, length, map, take, get_or, max, min, Some, refl, sym, ◌∙◌, ap, subst, ◌⊎◌, inl, inr, arith, append-nil, append_assoc}
use Rattle.std.specs.Prelude.{slice_get, codes}
use Rattle.std.specs.List.{flat_map}
use Rattle.std.proofs.lemmas.List.{take_more}
use Rattle.std.proofs.lemmas.Option.{slice_get_within}
use Rattle.std.proofs.lemmas.Grind.{flat_map-append}
use Rattle.akl_terms.specs.declared.program.ShownTerm.{ShownTerm}
use Rattle.tree_models.specs.declared.cell.Cell.{Cell}
use Rattle.tree_models.specs.declared.model.Given.{Given}
use Rattle.tree_models.specs.declared.model.TreeModel.{TreeModel}
use Rattle.tree_models.specs.Solutions.{Visits, nothing_left, met, first, IsNumbered}
use Rattle.tree_models.specs.Tables.{places_of}
use Rattle.tree_models.specs.Texts.{shown_line, shown_lines, cell_line, line_of, IsReached, at_start, below, AreRising, IsModelText, above, places_from, AreCellLines}
use Rattle.tree_models.specs.Visiting.{IsOne}
use Rattle.tree_models.proofs.Found.{one_left, one_right, one_either}

-- of two numbers
equal_or_less : (x y : ℕ) → x ≤ y → (x ≡ y) ⊎ (x < y)
equal_or_less zero zero h = inl refl
equal_or_less zero (suc y) h = inr (omega arith)
equal_or_less (suc x) zero h = absurd (omega (arith, h))
equal_or_less (suc x) (suc y) h = elim (equal_or_less x y (omega (arith, h))) [ inl e ↦ inl (ap suc e) | inr l ↦ inr (omega (arith, l)) ]

-- the lines of shown terms

shown_behind : (xs : List ShownTerm) (is : List ℕ) (x : ShownTerm) (i : ℕ) → length xs ≡ length is → shown_lines (map (λ (s : ShownTerm). s.name) (xs ++ x ∷ [])) (is ++ i ∷ []) ≡ shown_lines (map (λ (s : ShownTerm). s.name) xs) is ++ shown_line x.name i
shown_behind [] [] x i e = append-nil (shown_line x.name i)
shown_behind [] (j ∷ js) x i e = absurd (omega (arith, e))
shown_behind (y ∷ ys) [] x i e = absurd (omega (arith, e))
shown_behind (y ∷ ys) (j ∷ js) x i e =
    ap (λ (l : List ℕ). shown_line y.name j ++ l) (shown_behind ys js x i (omega (arith, e))) ∙ sym (append_assoc (shown_line y.name j) (shown_lines (map (λ (s : ShownTerm). s.name) ys) js) (shown_line x.name i))

take_length : {A : Type 0} (xs : List A) (k : ℕ) → k ≤ length xs → length (take k xs) ≡ k
take_length xs zero h = refl
take_length [] (suc k) h = absurd (omega (arith, h))
take_length (x ∷ xs) (suc k) h = ap (λ (n : ℕ). suc n) (take_length xs k (omega (arith, h)))

pub shown_more : (xs : List ShownTerm) (is : List ℕ) (k : ℕ) (d : ShownTerm) (e : ℕ) (name : List ℕ) (p : ℕ) (start old new : List ℕ) → k < length xs → k < length is → name ≡ (get_or xs k d).name → p ≡ get_or is k e → old ≡ start ++ shown_lines (map (λ (s : ShownTerm). s.name) (take k xs)) (take k is)
    → new ≡ old ++ shown_line name p → new ≡ start ++ shown_lines (map (λ (s : ShownTerm). s.name) (take (k + 1) xs)) (take (k + 1) is)
shown_more xs is k d e name p start old new h l a b o n =
    let same_size : length (take k xs) ≡ length (take k is) = take_length xs k (omega (arith, h)) ∙ sym (take_length is k (omega (arith, l))) in
    n ∙ (λ j. old ++ shown_line (a j) (b j)) ∙ ap (λ (t : List ℕ). t ++ shown_line (get_or xs k d).name (get_or is k e)) o
    ∙ append_assoc start (shown_lines (map (λ (s : ShownTerm). s.name) (take k xs)) (take k is)) (shown_line (get_or xs k d).name (get_or is k e))
    ∙ ap (λ (t : List ℕ). start ++ t)
    (sym (shown_behind (take k xs) (take k is) (get_or xs k d) (get_or is k e) same_size) ∙ (λ j. shown_lines (map (λ (s : ShownTerm). s.name) (sym (take_more xs k d h) j)) (sym (take_more is k e l) j)))

pub short_end : (m n k : ℕ) → min m n ≤ k → (m ≤ k) ⊎ (n ≤ k)
short_end zero n k h = inl (omega arith)
short_end (suc m) zero k h = inr (omega arith)
short_end (suc m) (suc n) zero h = absurd (omega (arith, h))
short_end (suc m) (suc n) (suc k) h = elim (short_end m n k (omega (arith, h))) [ inl l ↦ inl (omega (arith, l)) | inr l ↦ inr (omega (arith, l)) ]

pub shown_all : (xs : List ShownTerm) (is : List ℕ) (k : ℕ) → (length xs ≤ k) ⊎ (length is ≤ k) → shown_lines (map (λ (s : ShownTerm). s.name) (take k xs)) (take k is) ≡ shown_lines (map (λ (s : ShownTerm). s.name) xs) is
shown_all [] is zero h = refl
shown_all [] is (suc k) h = refl
shown_all (x ∷ xs) [] zero h = refl
shown_all (x ∷ xs) [] (suc k) h = refl
shown_all (x ∷ xs) (i ∷ is) zero (inl h) = absurd (omega (arith, h))
shown_all (x ∷ xs) (i ∷ is) zero (inr h) = absurd (omega (arith, h))
shown_all (x ∷ xs) (i ∷ is) (suc k) (inl h) = ap (λ (l : List ℕ). shown_line x.name i ++ l) (shown_all xs is k (inl (omega (arith, h))))
shown_all (x ∷ xs) (i ∷ is) (suc k) (inr h) = ap (λ (l : List ℕ). shown_line x.name i ++ l) (shown_all xs is k (inr (omega (arith, h))))

-- the least number above places

pub above_more : (low : ℕ) (is : List ℕ) (i : ℕ) → above low (is ++ i ∷ []) ≡ max (above low is) (suc i)
above_more low [] i = refl
above_more low (j ∷ is) i = above_more (max low (suc j)) is i

pub above_next : (low : ℕ) (is : List ℕ) (k d next old new : ℕ) → k < length is → old ≡ above low (take k is) → next ≡ suc (get_or is k d) → new ≡ max old next → new ≡ above low (take (k + 1) is)
above_next low is k d next old new h o e n = n ∙ ap (max old) e ∙ ap (λ (m : ℕ). max m (suc (get_or is k d))) o ∙ sym (above_more low (take k is) (get_or is k d)) ∙ ap (above low) (sym (take_more is k d h))

above_low : (low : ℕ) (is : List ℕ) → low ≤ above low is
above_low low [] = omega arith
above_low low (i ∷ is) = let h : max low (suc i) ≤ above (max low (suc i)) is = above_low (max low (suc i)) is in omega (arith, h)

above_each : (low : ℕ) (is : List ℕ) (i : ℕ) → IsOne i is → i < above low is
above_each low [] i m = absurd m
above_each low (j ∷ is) i (inl e) = let h : max low (suc j) ≤ above (max low (suc j)) is = above_low (max low (suc j)) is in omega (arith, h, e)
above_each low (j ∷ is) i (inr m) = above_each (max low (suc j)) is i m

above_least : (low n : ℕ) (is : List ℕ) → low ≤ n → ((i : ℕ) → IsOne i is → i < n) → above low is ≤ n
above_least low n [] h f = h
above_least low n (i ∷ is) h f = let l : i < n = f i (inl refl) in above_least (max low (suc i)) n is (omega (arith, h, l)) (λ j m. f j (inr m))

-- places in order

places_more : (low n : ℕ) → places_from low (suc n) ≡ places_from low n ++ (low + n) ∷ []
places_more low zero = ap (λ (k : ℕ). k ∷ []) (omega arith)
places_more low (suc n) = ap (λ (l : List ℕ). low ∷ l) (places_more (suc low) n ∙ ap (λ (k : ℕ). places_from (suc low) n ++ k ∷ []) (omega arith))

places_next : (n : ℕ) → places_from 0 (suc n) ≡ places_from 0 n ++ n ∷ []
places_next n = places_more 0 n ∙ ap (λ (k : ℕ). places_from 0 n ++ k ∷ []) (omega arith)

one_from : (low n i : ℕ) → IsOne i (places_from low n) → (low ≤ i) × (i < low + n)
one_from low zero i m = absurd m
one_from low (suc n) i (inl e) = (omega (arith, e), omega (arith, e))
one_from low (suc n) i (inr m) = let h : (suc low ≤ i) × (i < suc low + n) = one_from (suc low) n i m in (omega (arith, h.0), omega (arith, h.1))

from_one : (low n i : ℕ) → low ≤ i → i < low + n → IsOne i (places_from low n)
from_one low zero i h l = absurd (omega (arith, h, l))
from_one low (suc n) i h l = on (equal_or_less low i h) (λ k. from_one (suc low) n i k (omega (arith, l)))
  where
    on : (low ≡ i) ⊎ (low < i) → (suc low ≤ i → IsOne i (places_from (suc low) n)) → IsOne i (places_from low (suc n))
    on (inl e) f = inl (sym e)
    on (inr k) f = inr (f (omega (arith, k)))

rising_from : (low n : ℕ) → AreRising low (places_from low n)
rising_from low zero = tt
rising_from low (suc n) = (omega arith, rising_from (suc low) n)

-- the first lines, and what is above the places that they reach
pub record AreFirstLines (symbols : List (List ℕ)) (cells : List Cell) (shown old new : List ℕ) (place end : ℕ) : Type 0 where
  pub within : place ≤ length cells
  pub not_above : place ≤ end
  pub is : new ≡ old ++ flat_map (cell_line symbols cells) (places_from 0 place)
  pub starts : (i : ℕ) → IsOne i shown → i < end
  pub arguments : (i j : ℕ) (c : Cell) → i < place → slice_get cells i ≡ Some c → IsOne j (places_of c) → j < end
  pub least : (n : ℕ) → ((i : ℕ) → IsOne i shown → i < n) → ((i j : ℕ) (c : Cell) → i < n → slice_get cells i ≡ Some c → IsOne j (places_of c) → j < n) → end ≤ n

module _ (symbols : List (List ℕ)) (cells : List Cell) (shown old : List ℕ) where
  pub first_none : (end : ℕ) → end ≡ above 0 shown → AreFirstLines symbols cells shown old old 0 end
  first_none end e = subst (AreFirstLines symbols cells shown old old 0) (sym e) (record {
    within = omega arith;
    not_above = omega arith;
    is = sym (append-nil old);
    starts = above_each 0 shown;
    arguments = λ i j c l s m. absurd (omega (arith, l));
    least = λ n f g. above_least 0 n shown (omega arith) f;
  })

  first_more : (mid new : List ℕ) (place end next : ℕ) (c : Cell) → AreFirstLines symbols cells shown old mid place end → place < end → slice_get cells place ≡ Some c → new ≡ mid ++ line_of symbols place c → next ≡ above end (places_of c)
      → AreFirstLines symbols cells shown old new (suc place) next
  first_more mid new place end next c a l s n e = subst (AreFirstLines symbols cells shown old new (suc place)) (sym e) (record {
    within = (let h : place < length cells = slice_get_within cells place c s in omega (arith, h));
    not_above = (let h : end ≤ above end (places_of c) = above_low end (places_of c) in omega (arith, h, l));
    is = n ∙ ap (λ (t : List ℕ). t ++ line_of symbols place c) a.is ∙ append_assoc old (flat_map (cell_line symbols cells) (places_from 0 place)) (line_of symbols place c)
        ∙ ap (λ (t : List ℕ). old ++ t) (line ∙ sym (flat_map-append (cell_line symbols cells) (places_from 0 place) (place ∷ [])) ∙ ap (flat_map (cell_line symbols cells)) (sym (places_next place)));
    starts = λ i m. let h : end ≤ above end (places_of c) = above_low end (places_of c) in let k : i < end = a.starts i m in omega (arith, h, k);
    arguments = λ i j d k o m. on i j d (equal_or_less i place (omega (arith, k))) o m;
    least = λ k f g. above_least end k (places_of c) (a.least k f g) (λ j m. g place j c (let h : end ≤ k = a.least k f g in omega (arith, h, l)) s m);
  })
    where
      here : get_or cells place Cell.Free ≡ c
      here = Rattle.std.proofs.lemmas.Option.get_or_from_slice_get cells place c Cell.Free s

      line : flat_map (cell_line symbols cells) (places_from 0 place) ++ line_of symbols place c ≡ flat_map (cell_line symbols cells) (places_from 0 place) ++ flat_map (cell_line symbols cells) (place ∷ [])
      line = ap (λ (t : List ℕ). flat_map (cell_line symbols cells) (places_from 0 place) ++ t) (ap (line_of symbols place) (sym here) ∙ sym (append-nil (cell_line symbols cells place)))

      on : (i j : ℕ) (d : Cell) → (i ≡ place) ⊎ (i < place) → slice_get cells i ≡ Some d → IsOne j (places_of d) → j < above end (places_of c)
      on i j d (inl q) o m =
          let same : d ≡ c = (let z : Some d ≡ Some c = sym o ∙ ap (slice_get cells) q ∙ s in cc) in
          above_each end (places_of c) j (subst (λ (k : Cell). IsOne j (places_of k)) same m)
      on i j d (inr q) o m = let h : end ≤ above end (places_of c) = above_low end (places_of c) in let k : j < end = a.arguments i j d q o m in omega (arith, h, k)

  pub first_next : (mid new : List ℕ) (place end next : ℕ) (c : Cell) → AreFirstLines symbols cells shown old mid place end → place < end → slice_get cells place ≡ Some c → new ≡ mid ++ line_of symbols place c → next ≡ above end (places_of c)
      → AreFirstLines symbols cells shown old new (place + 1) next
  first_next mid new place end next c a l s n e = subst (λ (k : ℕ). AreFirstLines symbols cells shown old new k next) (omega arith) (first_more mid new place end next c a l s n e)

  pub lines_all : (new : List ℕ) (place end : ℕ) → AreFirstLines symbols cells shown old new place end → (end ≤ place) ⊎ (length cells ≤ place) → AreCellLines symbols cells shown old new
  lines_all new place end a h = record {
    count = place;
    is = a.is;
    within = a.within;
    least = λ n f g. let l : end ≤ n = a.least n f g in let k : place ≤ end = a.not_above in omega (arith, l, k);
    closed = λ l. on h l;
  }
    where
      on : (end ≤ place) ⊎ (length cells ≤ place) → place < length cells → ((i : ℕ) → IsOne i shown → i < place) × ((i j : ℕ) (c : Cell) → i < place → slice_get cells i ≡ Some c → IsOne j (places_of c) → j < place)
      on (inl e) l = ((λ i m. let k : i < end = a.starts i m in omega (arith, e, k)), (λ i j c q o m. let k : j < end = a.arguments i j c q o m in omega (arith, e, k)))
      on (inr e) l = absurd (omega (arith, e, l))

-- places that are numbered by first visit

visits_up : {cells : List Cell} {n m : ℕ} {ps : List ℕ} → Visits cells n ps m → n ≤ m
visits_up nothing_left = omega arith
visits_up (met l v) = visits_up v
visits_up (first {n = n} {m = m} e v) = let h : suc n ≤ m = visits_up v in omega (arith, h)

visits_split : {cells : List Cell} {n m : ℕ} (qs bs : List ℕ) → Visits cells n (qs ++ bs) m → (k : ℕ) × Visits cells n qs k
visits_split {cells} {n} {m} qs bs v = on qs v refl
  where
    on : {n : ℕ} {ps : List ℕ} (qs : List ℕ) → Visits cells n ps m → ps ≡ qs ++ bs → (k : ℕ) × Visits cells n qs k
    on {n} [] v e = (n, nothing_left)
    on (a ∷ qs) nothing_left e = cc
    on {n} (a ∷ qs) (met {p = p} {ps = ps} l v) e =
        let h : p ≡ a = cc in
        let t : ps ≡ qs ++ bs = cc in
        let w : (k : ℕ) × Visits cells n qs k = on qs v t in
        (w.0, subst (λ (q : ℕ). Visits cells n (q ∷ qs) w.0) h (met l w.1))
    on (a ∷ qs) (first {n = n} {c = c} {ps = ps} s v) e =
        let h : n ≡ a = cc in
        let t : ps ≡ qs ++ bs = cc in
        let w : (k : ℕ) × Visits cells (suc n) (places_of c ++ qs) k = on (places_of c ++ qs) v (ap (λ (l : List ℕ). places_of c ++ l) t ∙ sym (append_assoc (places_of c) qs bs)) in
        (w.0, subst (λ (q : ℕ). Visits cells n (q ∷ qs) w.0) h (first s w.1))

-- each place of the agenda, and each argument of what is visited, has a number
agenda_small : {cells : List Cell} {n m : ℕ} {ps : List ℕ} → Visits cells n ps m → (i : ℕ) → IsOne i ps → i < m
agenda_small nothing_left i o = absurd o
agenda_small (met {n = n} {m = m} {p = p} l v) i (inl e) = let h : n ≤ m = visits_up v in omega (arith, l, h, e)
agenda_small (met l v) i (inr o) = agenda_small v i o
agenda_small (first {n = n} {m = m} s v) i (inl e) = let h : suc n ≤ m = visits_up v in omega (arith, h, e)
agenda_small (first {c = c} {ps = ps} s v) i (inr o) = agenda_small v i (one_right i (places_of c) ps o)

arguments_small : {cells : List Cell} {n m : ℕ} {ps : List ℕ} → Visits cells n ps m → (i j : ℕ) (c : Cell) → n ≤ i → i < m → slice_get cells i ≡ Some c → IsOne j (places_of c) → j < m
arguments_small (nothing_left {n = n}) i j c h l s o = absurd (omega (arith, h, l))
arguments_small (met l v) i j c h k s o = arguments_small v i j c h k s o
arguments_small {cells} {m = m} (first {n = n} {c = d} {ps = ps} r v) i j c h k s o = on (equal_or_less n i h) (λ e. arguments_small v i j c e k s o)
  where
    on : (n ≡ i) ⊎ (n < i) → (suc n ≤ i → j < m) → j < m
    on (inl e) f =
        let same : c ≡ d = (let z : Some c ≡ Some d = sym s ∙ ap (slice_get cells) (sym e) ∙ r in cc) in
        agenda_small v j (one_left j (places_of d) ps (subst (λ (k : Cell). IsOne j (places_of k)) same o))
    on (inr e) f = f (omega (arith, e))

-- what is visited is reached
visited_reached : {cells : List Cell} {n m : ℕ} {ps : List ℕ} (starts : List ℕ) → Visits cells n ps m → ((i : ℕ) → IsOne i ps → IsReached cells starts i) → (i : ℕ) → n ≤ i → i < m → IsReached cells starts i
visited_reached starts (nothing_left {n = n}) f i h l = absurd (omega (arith, h, l))
visited_reached starts (met l v) f i h k = visited_reached starts v (λ j o. f j (inr o)) i h k
visited_reached {cells} {m = m} starts (first {n = n} {c = c} {ps = ps} s v) f i h k =
    on (equal_or_less n i h) (λ e. visited_reached starts v (λ j o. elim (one_either j (places_of c) ps o) [ inl a ↦ below (f n (inl refl)) s a | inr a ↦ f j (inr a) ]) i e k)
  where
    on : (n ≡ i) ⊎ (n < i) → (suc n ≤ i → IsReached cells starts i) → IsReached cells starts i
    on (inl e) g = subst (IsReached cells starts) e (f n (inl refl))
    on (inr e) g = g (omega (arith, e))

closed_reached : (cells : List Cell) (starts : List ℕ) (n : ℕ) → ((i : ℕ) → IsOne i starts → i < n) → ((i j : ℕ) (c : Cell) → i < n → slice_get cells i ≡ Some c → IsOne j (places_of c) → j < n) → {i : ℕ} → IsReached cells starts i → i < n
closed_reached cells starts n f g (at_start o) = f _ o
closed_reached cells starts n f g (below {i = i} {j = j} {c = c} r s o) = g i j c (closed_reached cells starts n f g r) s o

pub model_text : (symbols names : List (List ℕ)) (m : TreeModel) (old text : List ℕ) → AreCellLines symbols m.cells.items m.shown.items old text → old ≡ codes "model\n" ++ shown_lines names m.shown.items → IsNumbered m → IsModelText symbols names m text
model_text symbols names m old text a e v = record {
  places = places_from 0 a.count;
  rising = rising_from 0 a.count;
  reached = λ i o.
      let h : (0 ≤ i) × (i < 0 + a.count) = one_from 0 a.count i o in
      visited_reached m.shown.items part.1 (λ j q. at_start q) i (omega arith) (let l : a.count ≤ part.0 = least in omega (arith, h.1, l));
  all = λ i r. from_one 0 a.count i (omega arith) (let h : i < a.count = closed_reached m.cells.items m.shown.items a.count closed.0 closed.1 r in omega (arith, h));
  is = a.is ∙ ap (λ (l : List ℕ). l ++ flat_map (cell_line symbols m.cells.items) (places_from 0 a.count)) e
      ∙ append_assoc (codes "model\n") (shown_lines names m.shown.items) (flat_map (cell_line symbols m.cells.items) (places_from 0 a.count));
}
  where
    part : (k : ℕ) × Visits m.cells.items 0 m.shown.items k
    part = visits_split m.shown.items (map (λ (g : Given). g.place) m.given.items) v

    least : a.count ≤ part.0
    least = a.least part.0 (agenda_small part.1) (λ i j c l s o. arguments_small part.1 i j c (omega arith) l s o)

    closed : ((i : ℕ) → IsOne i m.shown.items → i < a.count) × ((i j : ℕ) (c : Cell) → i < a.count → slice_get m.cells.items i ≡ Some c → IsOne j (places_of c) → j < a.count)
    closed = on (equal_or_less a.count (length m.cells.items) a.within)
      where
        on : (a.count ≡ length m.cells.items) ⊎ (a.count < length m.cells.items) → ((i : ℕ) → IsOne i m.shown.items → i < a.count) × ((i j : ℕ) (c : Cell) → i < a.count → slice_get m.cells.items i ≡ Some c → IsOne j (places_of c) → j < a.count)
        on (inr l) = a.closed l
        on (inl q) = (
          (λ i o. subst (λ (n : ℕ). i < n) (sym q) (agenda_small v i (one_left i m.shown.items (map (λ (g : Given). g.place) m.given.items) o))),
          (λ i j c l s o. subst (λ (n : ℕ). j < n) (sym q) (arguments_small v i j c (omega arith) (subst (λ (n : ℕ). i < n) q l) s o)),
        )
