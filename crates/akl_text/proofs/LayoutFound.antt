-- The layout that is computed is the layout at the front, and there is no other.
use Rattle.std.proofs.Common.{◌≡◌, ◌≢◌, ℕ, suc, ◌+◌, ◌<◌, ◌≤◌, Bool, true, false, cond, List, [], ◌∷◌, ◌++◌, length, drop, take, Option, Some, None, refl, sym, ap, subst, ◌∙◌, arith, append_assoc}
use Rattle.std.specs.Prelude.{option_map, slice_index, ◌==◌, ◌&&◌, not, IfSome, IfNone}
use Rattle.std.specs.List.{prefix_len, list_all}
use Rattle.std.proofs.lemmas.Bool.{eqb-true, eqb-false, ne_eqb, and_parts, not-false}
use Rattle.std.proofs.lemmas.List.{take_at, drop_at, length-append}
use Rattle.akl_text.specs.Bytes.{is_blank}
use Rattle.akl_text.specs.Layout.{ends_line, IsLayout, blank, line_comment, block_comment}
use Rattle.akl_text.specs.Computed.{block_len, layout_at}
use Rattle.akl_text.proofs.Cases.{by_cond}
use Rattle.akl_text.proofs.Runs.{run_all, run_within}

record IsFrontLayout (text : List ℕ) (n : ℕ) : Type 0 where
  layout : IsLayout (take n text) (drop n text)
  some : 0 < n
  within : n ≤ length text

abbrev IfLayout : List ℕ → Option ℕ → Type 0
IfLayout text None = Unit {0}
IfLayout text (Some n) = IsFrontLayout text n

from_parts : (w rest : List ℕ) (n : ℕ) → length w ≡ n → 0 < n → IsLayout w rest → IsFrontLayout (w ++ rest) n
from_parts w rest n e h l = record {
  layout = rw (take_at w rest n e, drop_at w rest n e) l;
  some = h;
  within = omega (arith, length-append w rest, e);
}

-- ---- line comments
abbrev in_line : ℕ → Bool
in_line b = not (b == 10)

stops_of : (x : Bool) (b : ℕ) (t : List ℕ) → in_line b ≡ x → ends_line (drop (prefix_len in_line t) t) ≡ true → ends_line (drop (cond x (1 + prefix_len in_line t) 0) (b ∷ t)) ≡ true
stops_of true b t e h = rw (let z : 1 + prefix_len in_line t ≡ suc (prefix_len in_line t) = omega arith in z) h
stops_of false b t e h = not-false (b == 10) e

line_stops : (t : List ℕ) → ends_line (drop (prefix_len in_line t) t) ≡ true
line_stops [] = refl
line_stops (b ∷ t) = stops_of (in_line b) b t refl (line_stops t)

line_is : (w rest : List ℕ) → list_all in_line w ≡ true → ends_line rest ≡ true → prefix_len in_line (w ++ rest) ≡ length w
line_is [] [] e f = refl
line_is [] (b ∷ rest) e f = rw f refl
line_is (b ∷ w) rest e f =
    let h = and_parts (in_line b) (list_all in_line w) e in
    rw (h.0, line_is w rest h.1 f) (let z : 1 + length w ≡ suc (length w) = omega arith in z)

-- ---- block comments
abbrev NoClose : List ℕ → Type 0
NoClose w = (u v : List ℕ) → w ≢ u ++ 42 ∷ 47 ∷ v

no_close_nil : NoClose []
no_close_nil [] v e = absurd cc
no_close_nil (x ∷ u) v e = absurd cc

head_is : {x y : ℕ} {xs ys : List ℕ} → x ∷ xs ≡ y ∷ ys → x ≡ y
head_is e = ap (λ (z : List ℕ). slice_index z 0) e

tail_is : {x y : ℕ} {xs ys : List ℕ} → x ∷ xs ≡ y ∷ ys → xs ≡ ys
tail_is e = ap (λ (z : List ℕ). drop 1 z) e

no_close_cons : (a : ℕ) (w : List ℕ) → NoClose w → (a ≡ 42 → slice_index w 0 ≡ 47 → ⊥) → NoClose (a ∷ w)
no_close_cons a w h g [] v e = g (head_is e) (ap (λ (z : List ℕ). slice_index z 0) (tail_is e))
no_close_cons a w h g (x ∷ u) v e = h u v (tail_is e)

no_close_tail : (a : ℕ) (w : List ℕ) → NoClose (a ∷ w) → NoClose w
no_close_tail a w h u v e = h (a ∷ u) v (ap (λ (z : List ℕ). a ∷ z) e)

-- the star that the scan remembers
abbrev held : Bool → List ℕ
held true = 42 ∷ []
held false = []

record Block (star : Bool) (t : List ℕ) (n : ℕ) : Type 0 where
  w : List ℕ
  rest : List ℕ
  parts : held star ++ t ≡ w ++ 42 ∷ 47 ∷ rest
  free : NoClose w
  count : n + length (held star) ≡ length w + 2

abbrev IfBlock : Bool → List ℕ → Option ℕ → Type 0
IfBlock star t None = Unit {0}
IfBlock star t (Some n) = Block star t n

-- what stands in front of a `*/` after a star begins with a star
begins_star : (w rest t : List ℕ) → 42 ∷ t ≡ w ++ 42 ∷ 47 ∷ rest → slice_index w 0 ≡ 47 → ⊥
begins_star [] rest t e h = absurd cc
begins_star (b ∷ w) rest t e h = absurd (let f : 42 ≡ b = head_is e in omega (arith, f, h))

block_more : (star next : Bool) (b : ℕ) (t : List ℕ) (o : Option ℕ) → (b == 42) ≡ next → (star && b == 47) ≡ false → IfBlock next t o → IfBlock star (b ∷ t) (option_map suc o)
block_more star next b t None i f h = tt
block_more false true b t (Some n) i f h = record { w = h.w; rest = h.rest; parts = ap (λ (z : ℕ). z ∷ t) (eqb-true b 42 i) ∙ h.parts; free = h.free; count = omega (arith, h.count) }
block_more true true b t (Some n) i f h =
    record {
      w = 42 ∷ h.w;
      rest = h.rest;
      parts = ap (λ (z : ℕ). 42 ∷ z ∷ t) (eqb-true b 42 i) ∙ ap (λ (z : List ℕ). 42 ∷ z) h.parts;
      free = no_close_cons 42 h.w h.free (λ _ e. begins_star h.w h.rest t h.parts e);
      count = omega (arith, h.count);
    }
block_more false false b t (Some n) i f h =
    record { w = b ∷ h.w; rest = h.rest; parts = ap (λ (z : List ℕ). b ∷ z) h.parts; free = no_close_cons b h.w h.free (λ e _. eqb-false b 42 i e); count = omega (arith, h.count) }
block_more true false b t (Some n) i f h =
    record {
      w = 42 ∷ b ∷ h.w;
      rest = h.rest;
      parts = ap (λ (z : List ℕ). 42 ∷ b ∷ z) h.parts;
      free = no_close_cons 42 (b ∷ h.w) (no_close_cons b h.w h.free (λ e _. eqb-false b 42 i e)) (λ _ e. eqb-false b 47 f e);
      count = omega (arith, h.count);
    }

block_here : (star : Bool) (b : ℕ) (t : List ℕ) → (star && b == 47) ≡ true → Block star (b ∷ t) 1
block_here true b t e = record { w = []; rest = t; parts = ap (λ (z : ℕ). 42 ∷ z ∷ t) (eqb-true b 47 e); free = no_close_nil; count = refl }
block_here false b t e = absurd cc

block_found : (star : Bool) (t : List ℕ) → IfBlock star t (block_len star t)
block_found star [] = tt
block_found star (b ∷ t) =
    by_cond (λ x. IfBlock star (b ∷ t) x) (star && b == 47) _ _ (λ e. block_here star b t e) (λ f. block_more star (b == 42) b t (block_len (b == 42) t) refl f (block_found (b == 42) t))

no_slash : (star : Bool) (b : ℕ) (w : List ℕ) → NoClose (held star ++ b ∷ w) → (star && b == 47) ≡ false
no_slash false b w h = refl
no_slash true b w h = ne_eqb b 47 (λ e. h [] w (ap (λ (z : ℕ). 42 ∷ z ∷ w) e))

no_close_held : (star : Bool) (w : List ℕ) → NoClose (held star ++ w) → NoClose w
no_close_held true w h = no_close_tail 42 w h
no_close_held false w h = h

still_free : (next : Bool) (b : ℕ) (w : List ℕ) → (b == 42) ≡ next → NoClose (b ∷ w) → NoClose (held next ++ w)
still_free true b w i h = subst (λ (z : ℕ). NoClose (z ∷ w)) (eqb-true b 42 i) h
still_free false b w i h = no_close_tail b w h

no_star_slash : (star : Bool) → (star && false) ≡ false
no_star_slash true = refl
no_star_slash false = refl

block_is : (star : Bool) (w rest : List ℕ) → NoClose (held star ++ w) → block_len star (w ++ 42 ∷ 47 ∷ rest) ≡ Some (length w + 2)
block_is star [] rest h = rw (no_star_slash star) refl
block_is star (b ∷ w) rest h =
    rw (no_slash star b w h, block_is (b == 42) w rest (still_free (b == 42) b w refl (no_close_held star (b ∷ w) h)))
    (let z : suc (length w + 2) ≡ suc (length w) + 2 = omega arith in ap Some z)

-- ---- layout
block_layout : (t : List ℕ) (o : Option ℕ) → IfBlock false t o → IfLayout (47 ∷ 42 ∷ t) (option_map (λ n. 2 + n) o)
block_layout t None h = tt
block_layout t (Some n) h =
    let close : List ℕ = 42 ∷ 47 ∷ [] in
    let whole : (47 ∷ 42 ∷ h.w ++ close) ++ h.rest ≡ 47 ∷ 42 ∷ t = ap (λ (z : List ℕ). 47 ∷ 42 ∷ z) (append_assoc h.w close h.rest ∙ sym h.parts) in
    subst (λ (z : List ℕ). IsFrontLayout z (2 + n)) whole
    (from_parts (47 ∷ 42 ∷ h.w ++ close) h.rest (2 + n) (omega (arith, length-append h.w close, h.count)) (omega arith) (block_comment h.free))

second_cons : (t : List ℕ) → (slice_index t 0 == 42) ≡ true → t ≡ 42 ∷ drop 1 t
second_cons [] e = absurd cc
second_cons (b ∷ t) e = ap (λ (z : ℕ). z ∷ t) (eqb-true b 42 e)

block_front : (a : ℕ) (t : List ℕ) → (a == 47 && slice_index t 0 == 42) ≡ true → IfLayout (a ∷ t) (option_map (λ n. 2 + n) (block_len false (drop 1 t)))
block_front a t e =
    let h = and_parts (a == 47) (slice_index t 0 == 42) e in
    let parts : a ∷ t ≡ 47 ∷ 42 ∷ drop 1 t = ap (λ (z : ℕ). z ∷ t) (eqb-true a 47 h.0) ∙ ap (λ (z : List ℕ). 47 ∷ z) (second_cons t h.1) in
    subst (λ (z : List ℕ). IfLayout z (option_map (λ n. 2 + n) (block_len false (drop 1 t)))) (sym parts) (block_layout (drop 1 t) (block_len false (drop 1 t)) (block_found false (drop 1 t)))

line_front : (a : ℕ) (t : List ℕ) → (a == 37) ≡ true → IsFrontLayout (a ∷ t) (1 + prefix_len in_line t)
line_front a t e =
    rw (eqb-true a 37 e, let z : 1 + prefix_len in_line t ≡ suc (prefix_len in_line t) = omega arith in z)
    (record { layout = line_comment (run_all in_line t) (line_stops t); some = omega arith; within = omega (arith, run_within in_line t) })

layout_found : (a : ℕ) (t : List ℕ) → IfLayout (a ∷ t) (layout_at (a ∷ t))
unfolding layout_at
layout_found a t =
    by_cond (λ x. IfLayout (a ∷ t) x) (is_blank a) _ _ (λ e. record { layout = blank e; some = omega arith; within = omega arith }) (λ _.
    by_cond (λ x. IfLayout (a ∷ t) x) (a == 37) _ _ (line_front a t) (λ _.
    by_cond (λ x. IfLayout (a ∷ t) x) (a == 47 && slice_index t 0 == 42) _ _ (block_front a t) (λ _. tt)))

pub layout_is : {w rest : List ℕ} → IsLayout w rest → layout_at (w ++ rest) ≡ Some (length w)
unfolding layout_at
layout_is (blank e) = rw e refl
layout_is (line_comment {w = w} {rest = rest} e f) = rw (line_is w rest e f) (let z : 1 + length w ≡ suc (length w) = omega arith in ap Some z)
layout_is (block_comment {w = w} {rest = rest} h) =
    let close : List ℕ = 42 ∷ 47 ∷ [] in
    rw (append_assoc w close rest, block_is false w rest h, length-append w close) (let z : 2 + (length w + 2) ≡ suc (suc (length w + 2)) = omega arith in ap Some z)

no_layout : (text : List ℕ) → layout_at text ≡ None → (w rest : List ℕ) → text ≡ w ++ rest → IsLayout w rest → ⊥
no_layout text e w rest parts l = absurd (let f : layout_at (w ++ rest) ≡ None = ap layout_at (sym parts) ∙ e in let g = sym f ∙ layout_is l in cc)

pub layout_not_empty : {w rest : List ℕ} → IsLayout w rest → 0 < length w
layout_not_empty (blank e) = omega arith
layout_not_empty (line_comment e f) = omega arith
layout_not_empty (block_comment h) = omega arith

-- what `layout_len` answers
front_layout : (text : List ℕ) → 0 < length text → IfLayout text (layout_at text)
front_layout [] h = absurd (omega (arith, h))
front_layout (a ∷ t) h = layout_found a t

module _ (text : List ℕ) where
  pub layout_len_found : (o : Option ℕ) → 0 < length text → o ≡ layout_at text → IfSome o (λ n. IsLayout (take n text) (drop n text))
  layout_len_found None h e = tt
  layout_len_found (Some n) h e = (let f : IsFrontLayout text n = subst (λ o. IfLayout text o) (sym e) (front_layout text h) in f.layout)

  pub layout_len_within : (o : Option ℕ) → 0 < length text → o ≡ layout_at text → IfSome o (λ n. (0 < n) × (n ≤ length text))
  layout_len_within None h e = tt
  layout_len_within (Some n) h e = (let f : IsFrontLayout text n = subst (λ o. IfLayout text o) (sym e) (front_layout text h) in (f.some, f.within))

  pub layout_len_none : (o : Option ℕ) → o ≡ layout_at text → IfNone o ((w rest : List ℕ) → text ≡ w ++ rest → IsLayout w rest → ⊥)
  layout_len_none None e = no_layout text (sym e)
  layout_len_none (Some n) e = tt
