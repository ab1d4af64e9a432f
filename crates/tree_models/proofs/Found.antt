-- What is found of a graph is a table that merges.
use Rattle.std.proofs.Common.{◌≡◌, ◌<◌, ℕ, ℤ, zero, suc, Bool, true, false, List, [], ◌∷◌, ◌++◌, length, map, Some, None, refl, sym, ◌∙◌, ap, subst, ◌⊎◌, inl, inr, arith, append-nil}
use Rattle.std.specs.Prelude.{◌==◌, ◌||◌, if◌then◌else◌, slice_get, option_map}
use Rattle.std.proofs.lemmas.Bool.{eqb-true, eqb-false}
use Rattle.akl_terms.specs.declared.name.Name.{Name}
use Rattle.akl_terms.specs.Tree.{Tree, Trees, variable, integer, port, symbol, list_of, Head, integer_head, port_head, symbol_head, head_of, arguments}
use Rattle.akl_terms.specs.Equal.{Equations, Equal, same, joined}
use Rattle.answer_text.proofs.SameTrees.{headed}
use Rattle.akl_terms.proofs.Arguments.{same_value, partner, length-arguments}
use Rattle.answer_text.specs.Printed.{IsFree}
use Rattle.answer_text.specs.Graph.{Graph, Stands, IsChild, AgreeIn, one_class, one_head}
use Rattle.tree_classes.specs.Numbers.{number_in}
use Rattle.tree_models.specs.Tables.{Table, places_of}
use Rattle.tree_models.specs.declared.cell.Cell.{Cell}
use Rattle.tree_models.specs.declared.cell.Cell.TheVariants.{Int as number, Port as a_port, Struct as compound}
use Rattle.tree_models.specs.Solutions.{IsWithin, Visits}
use Rattle.tree_models.specs.Visiting.{IsOne, class_of, row_of, VisitsNodes, all_visited, visited_before, new_class, place_by, AreCellsBy}
use Rattle.tree_models.specs.Laws.{IsCellOf, of_class, of_number, of_port, of_symbol, IsMerged, IsDecidedGraph, IsFound, IsTableFound}
use Rattle.tree_models.proofs.Numbered.{index_before, in_front, numbered, index_behind}
use Rattle.tree_models.proofs.Merged.{map_at, none_at, is_there, met_node, merges}

-- lists

pub one_left : (c : ℕ) (xs ys : List ℕ) → IsOne c xs → IsOne c (xs ++ ys)
one_left c [] ys m = absurd m
one_left c (x ∷ xs) ys (inl e) = inl e
one_left c (x ∷ xs) ys (inr m) = inr (one_left c xs ys m)

pub one_right : (c : ℕ) (xs ys : List ℕ) → IsOne c ys → IsOne c (xs ++ ys)
one_right c [] ys m = m
one_right c (x ∷ xs) ys m = inr (one_right c xs ys m)

pub one_either : (c : ℕ) (xs ys : List ℕ) → IsOne c (xs ++ ys) → IsOne c xs ⊎ IsOne c ys
one_either c [] ys m = inr m
one_either c (x ∷ xs) ys (inl e) = inl (inl e)
one_either c (x ∷ xs) ys (inr m) = elim (one_either c xs ys m) [ inl n ↦ inl (inr n) | inr n ↦ inr n ]

one_at : (xs : List ℕ) (k j : ℕ) → slice_get xs k ≡ Some j → IsOne j xs
one_at [] k j e = cc
one_at (x ∷ xs) zero j e = inl (let q : x ≡ j = cc in sym q)
one_at (x ∷ xs) (suc k) j e = inr (one_at xs k j e)

abbrev is_one : ℕ → List ℕ → Bool
is_one c [] = false
is_one c (x ∷ xs) = (c == x) || is_one c xs

one_true : (c : ℕ) (xs : List ℕ) → is_one c xs ≡ true → IsOne c xs
one_true c [] e = cc
one_true c (x ∷ xs) e = on (c == x) refl e (λ f. one_true c xs f)
  where
    on : (t : Bool) → (c == x) ≡ t → (t || is_one c xs) ≡ true → (is_one c xs ≡ true → IsOne c xs) → (c ≡ x) ⊎ IsOne c xs
    on true q f h = inl (eqb-true c x q)
    on false q f h = inr (h f)

true_one : (c : ℕ) (xs : List ℕ) → IsOne c xs → is_one c xs ≡ true
true_one c [] m = absurd m
true_one c (x ∷ xs) m = on (c == x) refl m (λ n. true_one c xs n)
  where
    on : (t : Bool) → (c == x) ≡ t → (c ≡ x) ⊎ IsOne c xs → (IsOne c xs → is_one c xs ≡ true) → (t || is_one c xs) ≡ true
    on true q n h = refl
    on false q (inl e) h = absurd (eqb-false c x q e)
    on false q (inr n) h = h n

-- places tell members apart
index_one : (c d : ℕ) (xs : List ℕ) → IsOne c xs → number_in xs c ≡ number_in xs d → c ≡ d
index_one c d [] m e = absurd m
index_one c d (x ∷ xs) m e = on (x == c) (x == d) refl refl m e (λ n f. index_one c d xs n f)
  where
    on : (s t : Bool) → (x == c) ≡ s → (x == d) ≡ t → (c ≡ x) ⊎ IsOne c xs → (if s then 0 else suc (number_in xs c)) ≡ (if t then 0 else suc (number_in xs d)) → (IsOne c xs → number_in xs c ≡ number_in xs d → c ≡ d) → c ≡ d
    on true true p q m f h = sym (eqb-true x c p) ∙ eqb-true x d q
    on true false p q m f h = cc
    on false true p q m f h = cc
    on false false p q (inl r) f h = absurd (eqb-false x c p (sym r))
    on false false p q (inr n) f h = h n cc

at_index : (c : ℕ) (xs : List ℕ) → IsOne c xs → slice_get xs (number_in xs c) ≡ Some c
at_index c [] m = absurd m
at_index c (x ∷ xs) m = on (x == c) refl m (λ n. at_index c xs n)
  where
    on : (t : Bool) → (x == c) ≡ t → (c ≡ x) ⊎ IsOne c xs → (IsOne c xs → slice_get xs (number_in xs c) ≡ Some c) → slice_get (x ∷ xs) (if t then 0 else suc (number_in xs c)) ≡ Some c
    on true q n h = ap Some (eqb-true x c q)
    on false q (inl e) h = absurd (eqb-false x c q (sym e))
    on false q (inr n) h = h n

there_at : (xs : List ℕ) (p : ℕ) → p < length xs → (c : ℕ) × (slice_get xs p ≡ Some c)
there_at [] p h = absurd (omega (arith, h))
there_at (x ∷ xs) zero h = (x, refl)
there_at (x ∷ xs) (suc p) h = there_at xs p (omega (arith, h))

-- lists that are the same at each place
list_same : (xs ys : List ℕ) → ((k : ℕ) → slice_get xs k ≡ slice_get ys k) → xs ≡ ys
list_same [] [] f = refl
list_same [] (y ∷ ys) f = let q : None ≡ Some y = f 0 in cc
list_same (x ∷ xs) [] f = let q : Some x ≡ None = f 0 in cc
list_same (x ∷ xs) (y ∷ ys) f = let q : Some x ≡ Some y = f 0 in let r : x ≡ y = cc in λ i. r i ∷ list_same xs ys (λ k. f (suc k)) i

size_same : {A B : Type 0} (xs : List A) (ys : List B) → ((k : ℕ) (x : A) → slice_get xs k ≡ Some x → (y : B) × (slice_get ys k ≡ Some y)) → ((k : ℕ) (y : B) → slice_get ys k ≡ Some y → (x : A) × (slice_get xs k ≡ Some x))
    → length xs ≡ length ys
size_same [] [] f h = refl
size_same [] (y ∷ ys) f h = let w : _ = h 0 y refl in let q : None ≡ Some w.0 = w.1 in cc
size_same (x ∷ xs) [] f h = let w : _ = f 0 x refl in let q : None ≡ Some w.0 = w.1 in cc
size_same (x ∷ xs) (y ∷ ys) f h = ap suc (size_same xs ys (λ k. f (suc k)) (λ k. h (suc k)))

place_of_one : (xs : List ℕ) (j : ℕ) → IsOne j xs → (k : ℕ) × (slice_get xs k ≡ Some j)
place_of_one [] j m = absurd m
place_of_one (x ∷ xs) j (inl e) = (0, ap Some (sym e))
place_of_one (x ∷ xs) j (inr m) = let w : (k : ℕ) × (slice_get xs k ≡ Some j) = place_of_one xs j m in (suc w.0, w.1)

row_is : (rows : List (List ℕ)) (c : ℕ) (row : List ℕ) → slice_get rows c ≡ Some row → row_of rows c ≡ row
row_is [] c row e = cc
row_is (r ∷ rs) zero row e = cc
row_is (r ∷ rs) (suc c) row e = row_is rs c row e

index_stays : (c : ℕ) (xs ys : List ℕ) → IsOne c xs → number_in (xs ++ ys) c ≡ number_in xs c
index_stays c [] ys m = absurd m
index_stays c (x ∷ xs) ys m = on (x == c) refl m (λ n. index_stays c xs ys n)
  where
    on : (t : Bool) → (x == c) ≡ t → (c ≡ x) ⊎ IsOne c xs → (IsOne c xs → number_in (xs ++ ys) c ≡ number_in xs c) → (if t then 0 else suc (number_in (xs ++ ys) c)) ≡ (if t then 0 else suc (number_in xs c))
    on true q n f = refl
    on false q (inl e) f = absurd (eqb-false x c q (sym e))
    on false q (inr n) f = ap suc (f n)

last_or : (xs : List ℕ) (c p d : ℕ) → slice_get (xs ++ c ∷ []) p ≡ Some d → (slice_get xs p ≡ Some d) ⊎ ((p ≡ length xs) × (c ≡ d))
last_or [] c zero d e = inr (refl, cc)
last_or [] c (suc p) d e = cc
last_or (x ∷ xs) c zero d e = inl e
last_or (x ∷ xs) c (suc p) d e = elim (last_or xs c p d e) [ inl f ↦ inl f | inr f ↦ inr (ap suc f.0, f.1) ]

once_more : (seen : List ℕ) (c : ℕ) → (IsOne c seen → ⊥) → ((p d : ℕ) → slice_get seen p ≡ Some d → number_in seen d ≡ p) → (p d : ℕ) → slice_get (seen ++ c ∷ []) p ≡ Some d → number_in (seen ++ c ∷ []) d ≡ p
once_more seen c n h p d e = elim (last_or seen c p d e) [
  | inl f ↦ index_stays d seen (c ∷ []) (one_at seen p d f) ∙ h p d f
  | inr f ↦ subst (λ (k : ℕ). number_in (seen ++ c ∷ []) k ≡ p) f.1 (index_behind c seen [] n ∙ sym f.0)
]

member_small : (c : ℕ) (xs : List ℕ) → IsOne c xs → number_in xs c < length xs
member_small c xs m = subst (λ (l : List ℕ). number_in l c < length xs) (append-nil xs) (index_before c xs [] m)

some_small : {A : Type 0} (xs : List A) (p : ℕ) (x : A) → slice_get xs p ≡ Some x → p < length xs
some_small [] p x e = cc
some_small (y ∷ ys) zero x e = omega arith
some_small (y ∷ ys) (suc p) x e = let h : p < length ys = some_small ys p x e in omega (arith, h)

-- orders of visits

module _ (rows : List (List ℕ)) (firsts : List ℕ) where
  stays_one : {seen agenda order : List ℕ} → VisitsNodes rows firsts seen agenda order → (c : ℕ) → IsOne c seen → IsOne c order
  stays_one {seen} {agenda} {order} v c m = let w : (more : List ℕ) × (order ≡ seen ++ more) = in_front rows firsts v in subst (IsOne c) (sym w.1) (one_left c seen w.0 m)

  -- each node of the agenda is visited
  all_met : {seen agenda order : List ℕ} → VisitsNodes rows firsts seen agenda order → (i : ℕ) → IsOne i agenda → IsOne (class_of firsts i) order
  all_met all_visited i m = absurd m
  all_met (visited_before {seen = seen} {order = order} {i = j} o v) i (inl e) = subst (λ (k : ℕ). IsOne (class_of firsts k) order) (sym e) (stays_one v (class_of firsts j) o)
  all_met (visited_before o v) i (inr m) = all_met v i m
  all_met (new_class {seen = seen} {order = order} {i = j} o v) i (inl e) = subst (λ (k : ℕ). IsOne (class_of firsts k) order) (sym e) (stays_one v (class_of firsts j) (one_right (class_of firsts j) seen (class_of firsts j ∷ []) (inl refl)))
  all_met (new_class {i = j} {is = is} o v) i (inr m) = all_met v i (one_right i (row_of rows (class_of firsts j)) is m)

  -- and of each class that is visited the arguments are
  closed : {seen agenda order : List ℕ} → VisitsNodes rows firsts seen agenda order → (c : ℕ) → IsOne c order → IsOne c seen ⊎ ((j : ℕ) → IsOne j (row_of rows c) → IsOne (class_of firsts j) order)
  closed all_visited c m = inl m
  closed (visited_before o v) c m = closed v c m
  closed (new_class {seen = seen} {order = order} {i = i} {is = is} o v) c m = on (closed v c m)
    where
      on : IsOne c (seen ++ class_of firsts i ∷ []) ⊎ ((j : ℕ) → IsOne j (row_of rows c) → IsOne (class_of firsts j) order) → IsOne c seen ⊎ ((j : ℕ) → IsOne j (row_of rows c) → IsOne (class_of firsts j) order)
      on (inr h) = inr h
      on (inl x) = elim (one_either c seen (class_of firsts i ∷ []) x) [
        | inl y ↦ inl y
        | inr y ↦ elim y [
          | inl e ↦ inr (λ j n. all_met v j (one_left j (row_of rows (class_of firsts i)) is (subst (λ (k : ℕ). IsOne j (row_of rows k)) e n)))
          | inr z ↦ absurd z
        ]
      ]

  -- a property of nodes that rows keep holds of the class of each that is visited
  holds_of : (P : ℕ → Type 0) (Q : ℕ → Type 0) → ((i : ℕ) → P i → Q (class_of firsts i)) → ((i j : ℕ) → P i → IsOne j (row_of rows (class_of firsts i)) → P j)
      → {seen agenda order : List ℕ} → VisitsNodes rows firsts seen agenda order → ((i : ℕ) → IsOne i agenda → P i) → ((c : ℕ) → IsOne c seen → Q c) → (c : ℕ) → IsOne c order → Q c
  holds_of P Q f h all_visited p q c m = q c m
  holds_of P Q f h (visited_before o v) p q c m = holds_of P Q f h v (λ i n. p i (inr n)) q c m
  holds_of P Q f h (new_class {seen = seen} {i = i} {is = is} o v) p q c m = holds_of P Q f h v
      (λ j n. elim (one_either j (row_of rows (class_of firsts i)) is n) [ inl x ↦ h i j (p i (inl refl)) x | inr x ↦ p j (inr x) ])
      (λ d n. elim (one_either d seen (class_of firsts i ∷ []) n) [ inl x ↦ q d x | inr x ↦ elim x [ inl e ↦ subst Q (sym e) (f i (p i (inl refl))) | inr y ↦ absurd y ] ]) c m

  -- each class stands once
  once : {seen agenda order : List ℕ} → VisitsNodes rows firsts seen agenda order → ((p c : ℕ) → slice_get seen p ≡ Some c → number_in seen c ≡ p) → (p c : ℕ) → slice_get order p ≡ Some c → number_in order c ≡ p
  once all_visited h p c e = h p c e
  once (visited_before o v) h p c e = once v h p c e
  once (new_class {seen = seen} {i = i} o v) h p c e = once v (λ q d f. once_more seen (class_of firsts i) o h q d f) p c e

-- the same term or the same head

is_integer : (t : Tree) (z : ℤ) → head_of t ≡ Some (integer_head z) → t ≡ integer z
is_integer (integer y) z e = cc
is_integer (variable x) z e = cc
is_integer (port q) z e = cc
is_integer (symbol f ts) z e = cc

is_port : (t : Tree) (q : Name) → head_of t ≡ Some (port_head q) → t ≡ port q
is_port (port p) q e = cc
is_port (variable x) q e = cc
is_port (integer z) q e = cc
is_port (symbol f ts) q e = cc

is_symbol : (t : Tree) (f n : ℕ) → head_of t ≡ Some (symbol_head f n) → (ts : Trees) × (t ≡ symbol f ts)
is_symbol (symbol g us) f n e = let q : g ≡ f = cc in (us, ap (λ (k : ℕ). symbol k us) q)
is_symbol (variable x) f n e = cc
is_symbol (integer z) f n e = cc
is_symbol (port q) f n e = cc

module _ (E : Equations) (g : Graph) (firsts starts order : List ℕ) (T : Table) (d : IsDecidedGraph E g (class_of firsts)) (h : IsFound E g firsts starts order T) where
  abbrev block : ℕ → ℕ
  block = class_of firsts

  abbrev place : ℕ → ℕ
  place = place_by firsts order

  abbrev reached : ℕ → Bool
  reached i = is_one (class_of firsts i) order

  -- a row has as many nodes as its term has arguments
  row_size : (i : ℕ) (t : Tree) (row : List ℕ) → Stands g i t → slice_get g.children i ≡ Some row → length row ≡ length (arguments t)
  row_size i t row p r = size_same row (arguments t) to back
    where
      to : (k j : ℕ) → slice_get row k ≡ Some j → (a : Tree) × (slice_get (arguments t) k ≡ Some a)
      to k j e = let w : (a : Tree) × (slice_get (arguments t) k ≡ Some a) × (u : Tree) × Stands g j u × Equal E a u = d.graph.child i k j t p (row, r, e) in (w.0, w.1)

      back : (k : ℕ) (a : Tree) → slice_get (arguments t) k ≡ Some a → (j : ℕ) × (slice_get row k ≡ Some j)
      back k a e =
          let w : (j : ℕ) × IsChild g i k j × (u : Tree) × Stands g j u × Equal E a u = d.graph.argument i k t a p e in
          (w.0, subst (λ (l : List ℕ). slice_get l k ≡ Some w.0) (same_value w.1.1 r) w.1.2)

  -- the rows of two nodes of a block have one class at each place
  rows_agree : (i j : ℕ) (s t : Tree) (h : Head) (r q : List ℕ) → Stands g i s → Stands g j t → head_of s ≡ Some h → head_of t ≡ Some h → slice_get g.children i ≡ Some r → slice_get g.children j ≡ Some q
      → ((k a b : ℕ) → IsChild g i k a → IsChild g j k b → block a ≡ block b) → map place r ≡ map place q
  rows_agree i j s t hd r q x y hs ht er eq f = list_same (map place r) (map place q) each
    where
      size : length r ≡ length q
      size = row_size i s r x er ∙ length-arguments s hd hs ∙ sym (length-arguments t hd ht) ∙ sym (row_size j t q y eq)

      each : (k : ℕ) → slice_get (map place r) k ≡ slice_get (map place q) k
      each k = map_at place r k ∙ on (is_there (slice_get r k)) (is_there (slice_get q k)) ∙ sym (map_at place q k)
        where
          on : (slice_get r k ≡ None) ⊎ ((a : ℕ) × (slice_get r k ≡ Some a)) → (slice_get q k ≡ None) ⊎ ((b : ℕ) × (slice_get q k ≡ Some b)) → option_map place (slice_get r k) ≡ option_map place (slice_get q k)
          on (inl n) w = ap (option_map place) (n ∙ sym (none_at r q k size n))
          on (inr (a, n)) (inl w) = let z : slice_get r k ≡ None = none_at q r k (sym size) w in let c : Some a ≡ None = sym n ∙ z in cc
          on (inr (a, n)) (inr (b, w)) = ap (option_map place) n ∙ ap (λ (c : ℕ). Some (number_in order c)) (f k a b (r, er, n) (q, eq, w)) ∙ sym (ap (option_map place) w)

  -- nodes that are visited stand
  abbrev Stood : ℕ → Type 0
  Stood i = (t : Tree) × Stands g i t

  abbrev IsFirst : ℕ → Type 0
  IsFirst c = Stood c × (class_of firsts c ≡ c)

  row_stood : (i j : ℕ) → Stood i → IsOne j (row_of g.children (class_of firsts i)) → Stood j
  row_stood i j (t, p) m =
      let f : (s : Tree) × Stands g (class_of firsts i) s × (class_of firsts (class_of firsts i) ≡ class_of firsts i) = h.first i t p in
      let r : (row : List ℕ) × (slice_get g.children (class_of firsts i) ≡ Some row) = h.row (class_of firsts i) f.0 f.1 in
      let k : (k : ℕ) × (slice_get r.0 k ≡ Some j) = place_of_one r.0 j (subst (IsOne j) (row_is g.children (class_of firsts i) r.0 r.1) m) in
      let w : (a : Tree) × (slice_get (arguments f.0) k.0 ≡ Some a) × (u : Tree) × Stands g j u × Equal E a u = d.graph.child (class_of firsts i) k.0 j f.0 f.1 (r.0, r.1, k.1) in
      (w.2, w.3)

  firsts_stand : (c : ℕ) → IsOne c order → IsFirst c
  firsts_stand c m = holds_of g.children firsts Stood IsFirst
      (λ i x. let f : (s : Tree) × Stands g (class_of firsts i) s × (class_of firsts (class_of firsts i) ≡ class_of firsts i) = h.first i x.0 x.1 in ((f.0, f.1), f.2)) row_stood h.visits h.start (λ c m. absurd m) c m

  place_at : (i : ℕ) → reached i ≡ true → slice_get order (place i) ≡ Some (class_of firsts i)
  place_at i r = at_index (class_of firsts i) order (one_true (class_of firsts i) order r)

  -- the cell of a node, by the first node of its class
  its_cell : (i : ℕ) (t : Tree) → reached i ≡ true → Stands g i t → (row : List ℕ) × (slice_get g.children i ≡ Some row) × (c : Cell) × (slice_get T.cells (place i) ≡ Some c) × IsCellOf E place row t c
  its_cell i t r p = (row.0, row.1, k.0, k.1, on (d.stable.agree (class_of firsts i) i f.0 t f.1 p f.2) k.2)
    where
      row : (row : List ℕ) × (slice_get g.children i ≡ Some row)
      row = h.row i t p

      f : (s : Tree) × Stands g (class_of firsts i) s × (class_of firsts (class_of firsts i) ≡ class_of firsts i)
      f = h.first i t p

      first_row : (row : List ℕ) × (slice_get g.children (class_of firsts i) ≡ Some row)
      first_row = h.row (class_of firsts i) f.0 f.1

      k : (k : Cell) × (slice_get T.cells (place i) ≡ Some k) × IsCellOf E place first_row.0 f.0 k
      k = h.cell (place i) (class_of firsts i) f.0 first_row.0 (place_at i r) f.1 first_row.1

      by_class : {s : Tree} {c : Cell} → IsFree E s → Equal E s t → IsCellOf E place first_row.0 s c → IsCellOf E place row.0 t c
      by_class n e (of_class y) = of_class (record { free = λ u v x z. n.free u v (joined e x) z })
      by_class n e (of_number {z = z}) = absurd (n.free (integer z) (integer_head z) same refl)
      by_class n e (of_port {q = z}) = absurd (n.free (port z) (port_head z) same refl)
      by_class n e (of_symbol {f = y} {ts = ts} l) = absurd (n.free (symbol y ts) (symbol_head y (length (list_of ts))) same refl)

      by_head : {s : Tree} {c : Cell} (v : Head) → head_of s ≡ Some v → head_of t ≡ Some v → Stands g (class_of firsts i) s → ((a b e : ℕ) → IsChild g (class_of firsts i) a b → IsChild g i a e → block b ≡ block e)
          → IsCellOf E place first_row.0 s c → IsCellOf E place row.0 t c
      by_head {s} v a b q z (of_class y) = absurd (y.free s v same a)
      by_head v a b q z (of_number {z = y}) = subst (λ (u : Tree). IsCellOf E place row.0 u (number y)) (sym (is_integer t y (b ∙ sym a))) of_number
      by_head v a b q z (of_port {q = y}) = subst (λ (u : Tree). IsCellOf E place row.0 u (a_port y)) (sym (is_port t y (b ∙ sym a))) of_port
      by_head v a b q z (of_symbol {f = y} {ts = ts} l) =
          let w : (us : Trees) × (t ≡ symbol y us) = is_symbol t y (length (list_of ts)) (b ∙ sym a) in
          let same_rows : map place first_row.0 ≡ map place row.0 = rows_agree (class_of firsts i) i (symbol y ts) t v first_row.0 row.0 q p a b first_row.1 row.1 z in
          subst (λ (ps : List ℕ). IsCellOf E place row.0 t (compound y ps)) (sym same_rows)
          (subst (λ (u : Tree). IsCellOf E place row.0 u (compound y (map place row.0))) (sym w.1) (of_symbol (row_size i t row.0 p row.1 ∙ ap (λ (u : Tree). length (arguments u)) w.1)))

      on : AgreeIn E g block (class_of firsts i) i f.0 t → IsCellOf E place first_row.0 f.0 k.0 → IsCellOf E place row.0 t k.0
      on (one_class n e) c = by_class n e c
      on (one_head {h = v} a b z) c = by_head v a b f.1 z c

  below : (i k j : ℕ) (t : Tree) → reached i ≡ true → Stands g i t → IsChild g i k j → reached j ≡ true
  below i k j t r p x = true_one (class_of firsts j) order (on (closed g.children firsts h.visits (class_of firsts i) (one_true (class_of firsts i) order r)))
    where
      f : (s : Tree) × Stands g (class_of firsts i) s × (class_of firsts (class_of firsts i) ≡ class_of firsts i)
      f = h.first i t p

      first_row : (row : List ℕ) × (slice_get g.children (class_of firsts i) ≡ Some row)
      first_row = h.row (class_of firsts i) f.0 f.1

      a : (a : Tree) × (slice_get (arguments t) k ≡ Some a) × (u : Tree) × Stands g j u × Equal E a u
      a = d.graph.child i k j t p x

      -- the first node of the class has a child of the same class there
      partner_row : AgreeIn E g block (class_of firsts i) i f.0 t → (m : ℕ) × IsOne m first_row.0 × (class_of firsts m ≡ class_of firsts j)
      partner_row (one_class n e) = let w : (v : Head) × (head_of t ≡ Some v) = headed t k a.0 a.1 in absurd (n.free t w.0 e w.1)
      partner_row (one_head {h = v} y z w) =
          let b : (b : Tree) × (slice_get (arguments f.0) k ≡ Some b) = partner t f.0 v k a.0 z y a.1 in
          let c : (m : ℕ) × IsChild g (class_of firsts i) k m × (u : Tree) × Stands g m u × Equal E b.0 u = d.graph.argument (class_of firsts i) k f.0 b.0 f.1 b.1 in
          (c.0, one_at first_row.0 k c.0 (subst (λ (l : List ℕ). slice_get l k ≡ Some c.0) (same_value c.1.1 first_row.1) c.1.2), w k c.0 j c.1 x)

      on : IsOne (class_of firsts i) [] ⊎ ((j : ℕ) → IsOne j (row_of g.children (class_of firsts i)) → IsOne (class_of firsts j) order) → IsOne (class_of firsts j) order
      on (inl m) = absurd m
      on (inr w) =
          let q : (m : ℕ) × IsOne m first_row.0 × (class_of firsts m ≡ class_of firsts j) = partner_row (d.stable.agree (class_of firsts i) i f.0 t f.1 p f.2) in
          subst (λ (c : ℕ). IsOne c order) q.2 (w q.0 (subst (IsOne q.0) (sym (row_is g.children (class_of firsts i) first_row.0 first_row.1)) q.1))

  of_node : (p : ℕ) → p < length T.cells → (i : ℕ) × (t : Tree) × (reached i ≡ true) × Stands g i t × (place i ≡ p)
  of_node p l =
      let c : (c : ℕ) × (slice_get order p ≡ Some c) = there_at order p (subst (λ (n : ℕ). p < n) h.size l) in
      let m : IsOne c.0 order = one_at order p c.0 c.1 in
      let f : IsFirst c.0 = firsts_stand c.0 m in
      (c.0, f.0.0, true_one (class_of firsts c.0) order (subst (λ (k : ℕ). IsOne k order) (sym f.1) m), f.0.1, ap (λ (k : ℕ). number_in order k) f.1 ∙ once g.children firsts h.visits (λ q e f. cc) p c.0 c.1)

  merged : IsMerged E g block place reached T
  merged = record {
    cell = its_cell;
    below = below;
    one = λ i j e. ap (λ (c : ℕ). number_in order c) e;
    apart = λ i j s t ri rj p q e. index_one (class_of firsts i) (class_of firsts j) order (one_true (class_of firsts i) order ri) e;
    of_node = of_node;
    given = λ x p e.
        let w : (i : ℕ) × (t : Tree) × IsOne i starts × Stands g i t × Equal E (variable x) t × (place i ≡ p) = h.given x p e in
        (w.0, w.1, true_one (class_of firsts w.0) order (all_met g.children firsts h.visits w.0 w.2), w.3, w.4, w.5);
  }

  -- the cells' places are those of their rows
  cell_places : (row : List ℕ) (t : Tree) (c : Cell) → length row ≡ length (arguments t) → (IsFree E t → length row ≡ 0) → IsCellOf E place row t c → places_of c ≡ map place row
  cell_places row t c l n w = on w l n
    where
      none : (xs : List ℕ) → length xs ≡ 0 → [] ≡ map place xs
      none [] e = refl
      none (x ∷ xs) e = cc

      on : {t : Tree} {c : Cell} → IsCellOf E place row t c → length row ≡ length (arguments t) → (IsFree E t → length row ≡ 0) → places_of c ≡ map place row
      on (of_class y) l n = none row (n y)
      on (of_number) l n = none row l
      on (of_port) l n = none row l
      on (of_symbol z) l n = refl

  -- a class that isn't structured has no arguments
  free_row : (i : ℕ) (t : Tree) (row : List ℕ) → Stands g i t → slice_get g.children i ≡ Some row → IsFree E t → length row ≡ 0
  free_row i t [] p e n = refl
  free_row i t (j ∷ js) p e n =
      let w : (a : Tree) × (slice_get (arguments t) 0 ≡ Some a) × (u : Tree) × Stands g j u × Equal E a u = d.graph.child i 0 j t p (j ∷ js, e, refl) in
      let v : (v : Head) × (head_of t ≡ Some v) = headed t 0 w.0 w.1 in absurd (n.free t v.0 same v.1)

  cells_by : AreCellsBy g.children firsts order T.cells
  cells_by = record {
    each = λ p c e.
        let f : IsFirst c = firsts_stand c (one_at order p c e) in
        let r : (row : List ℕ) × (slice_get g.children c ≡ Some row) = h.row c f.0.0 f.0.1 in
        let k : (k : Cell) × (slice_get T.cells p ≡ Some k) × IsCellOf E place r.0 f.0.0 k = h.cell p c f.0.0 r.0 e f.0.1 r.1 in
        (k.0, k.1, cell_places r.0 f.0.0 k.0 (row_size c f.0.0 r.0 f.0.1 r.1) (free_row c f.0.0 r.0 f.0.1 r.1) k.2 ∙ ap (map place) (sym (row_is g.children c r.0 r.1)));
  }

  -- each place is one of the list
  place_small : (i : ℕ) → reached i ≡ true → place i < length T.cells
  place_small i r = subst (λ (n : ℕ). place i < n) (sym h.size) (member_small (class_of firsts i) order (one_true (class_of firsts i) order r))

  within : IsWithin T
  within = record {
    arguments = λ p k j c e f.
        let l : p < length T.cells = some_small T.cells p c e in
        let w : (i : ℕ) × (t : Tree) × (reached i ≡ true) × Stands g i t × (place i ≡ p) = of_node p l in
        let o : (c : ℕ) × (slice_get order p ≡ Some c) = there_at order p (subst (λ (n : ℕ). p < n) h.size l) in
        let b : (k : Cell) × (slice_get T.cells p ≡ Some k) × (places_of k ≡ map place (row_of g.children o.0)) = cells_by.each p o.0 o.1 in
        let same_cell : b.0 ≡ c = some_one (sym b.1 ∙ e) in
        let q : slice_get (map place (row_of g.children o.0)) k ≡ Some j = ap (λ (ps : List ℕ). slice_get ps k) (sym b.2 ∙ ap places_of same_cell) ∙ f in
        argument_small o.0 (one_at order p o.0 o.1) k j q;
    given = λ x p e.
        let w : (i : ℕ) × (t : Tree) × IsOne i starts × Stands g i t × Equal E (variable x) t × (place i ≡ p) = h.given x p e in
        subst (λ (n : ℕ). n < length T.cells) w.5 (place_small w.0 (true_one (class_of firsts w.0) order (all_met g.children firsts h.visits w.0 w.2)));
  }
    where
      some_one : {c d : Cell} → Some c ≡ Some d → c ≡ d
      some_one e = cc

      argument_small : (c : ℕ) → IsOne c order → (k j : ℕ) → slice_get (map place (row_of g.children c)) k ≡ Some j → j < length T.cells
      argument_small c m k j e = on (is_there (slice_get (row_of g.children c) k)) (sym (map_at place (row_of g.children c) k) ∙ e) (closed g.children firsts h.visits c m)
        where
          on : (slice_get (row_of g.children c) k ≡ None) ⊎ ((a : ℕ) × (slice_get (row_of g.children c) k ≡ Some a)) → option_map place (slice_get (row_of g.children c) k) ≡ Some j
              → IsOne c [] ⊎ ((j : ℕ) → IsOne j (row_of g.children c) → IsOne (class_of firsts j) order) → j < length T.cells
          on (inl n) q w = let z : None ≡ Some j = sym (ap (option_map place) n) ∙ q in cc
          on (inr (a, n)) q (inl w) = absurd w
          on (inr (a, n)) q (inr w) =
              let z : Some (place a) ≡ Some j = sym (ap (option_map place) n) ∙ q in
              let y : place a ≡ j = cc in
              subst (λ (v : ℕ). v < length T.cells) y (place_small a (true_one (class_of firsts a) order (w a (one_at (row_of g.children c) k a n))))

  pub found : IsTableFound E g firsts starts order T
  found = record {
    merges = merges E g block place reached T d merged;
    within = within;
    visited = subst (λ (n : ℕ). Visits T.cells 0 (map (place_by firsts order) starts) n) (sym h.size) (numbered g.children firsts starts order T.cells h.visits cells_by);
    stands = λ i t u m p e a ks. met_node E g block place reached T d merged ks t i u (true_one (class_of firsts i) order (all_met g.children firsts h.visits i m)) p e a;
  }
