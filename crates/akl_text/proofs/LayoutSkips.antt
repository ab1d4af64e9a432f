-- Layout is passed over in one way.
use Rattle.std.proofs.Common.{◌≡◌, ℕ, ◌+◌, ◌≤◌, List, [], ◌∷◌, ◌++◌, length, drop, take, refl, sym, ap, subst, ◌∙◌, arith}
use Rattle.std.proofs.lemmas.List.{length-take, take-append-drop, drop-drop, length-append, length-drop}
use Rattle.akl_text.specs.Layout.{IsLayout, Skips, SkipsFrom, stays, layout}
use Rattle.akl_text.proofs.LayoutFound.{layout_not_empty}
use Rattle.akl_text.proofs.Reading.{front_same, layouts_same}

pub record SkipsSoFar (bytes : List ℕ) (from at : ℕ) : Type 0 where
  pub onward : (place : ℕ) → SkipsFrom bytes at place → SkipsFrom bytes from place
  pub within : at ≤ length bytes
  pub after : from ≤ at

pub skips_start : (bytes : List ℕ) (from : ℕ) → from ≤ length bytes → SkipsSoFar bytes from from
skips_start bytes from h = record { onward = λ place s. s; within = h; after = omega arith }

module _ (bytes : List ℕ) (from at : ℕ) (h : SkipsSoFar bytes from at) (rest : List ℕ) (e : rest ≡ drop at bytes) where
  pub skips_step : (n : ℕ) → IsLayout (take n rest) (drop n rest) → n ≤ length rest → SkipsSoFar bytes from (at + n)
  skips_step n l le =
      let len : length (take n rest) ≡ n = omega (arith, length-take n rest) in
      let next : drop n rest ≡ drop (at + n) bytes = ap (drop n) e ∙ drop-drop n at bytes in
      record {
        onward = λ place s. (
            let s' : Skips (at + length (take n rest)) (drop n rest) place = rw (len, next) s in
            h.onward place (subst (λ (z : List ℕ). Skips at z place) e (layout (sym (take-append-drop n rest)) l s')));
        within = omega (arith, ap length e, length-drop at bytes, h.within);
        after = omega (arith, h.after);
      }

  pub skips_none : ((w more : List ℕ) → rest ≡ w ++ more → IsLayout w more → ⊥) → SkipsFrom bytes from at
  skips_none f = h.onward at (subst (λ (z : List ℕ). Skips at z at) e (stays f))

nothing_left : (w rest : List ℕ) → [] ≡ w ++ rest → IsLayout w rest → ⊥
nothing_left w rest e l = absurd (omega (arith, layout_not_empty l, ap length e, length-append w rest))

empty_stays : (at : ℕ) (text : List ℕ) → length text ≡ 0 → Skips at text at
empty_stays at [] e = stays nothing_left
empty_stays at (a ∷ t) e = absurd (omega (arith, e))

pub skips_all : (bytes : List ℕ) (from at : ℕ) → SkipsSoFar bytes from at → length bytes ≤ at → SkipsFrom bytes from at
skips_all bytes from at h l = h.onward at (empty_stays at (drop at bytes) (omega (arith, length-drop at bytes, l)))

-- ---- one way
pub skips_one : {at p q : ℕ} {text : List ℕ} → Skips at text p → Skips at text q → p ≡ q
skips_one (stays f) (stays g) = refl
skips_one (stays f) (layout {w = w} {rest = rest} e l s) = absurd (f w rest e l)
skips_one (layout {w = w} {rest = rest} e l s) (stays f) = absurd (f w rest e l)
skips_one {at} {p} {q} (layout {w = w} {rest = rest} e l s) (layout {w = v} {rest = more} f m t) =
    let same = layouts_same (sym e ∙ f) l m in
    let parts = front_same w v rest more (sym e ∙ f) same in
    let t' : Skips (at + length w) rest q = rw (same, parts.1) t in
    skips_one s t'

pub skips_after : {at p : ℕ} {text : List ℕ} → Skips at text p → at ≤ p
skips_after (stays f) = omega arith
skips_after (layout e l s) = omega (arith, skips_after s)
