-- The scan of quoted text, one byte or escape at a time.
use Rattle.std.proofs.Common.{◌≡◌, ℕ, suc, ◌+◌, ◌<◌, ◌≤◌, Bool, true, false, cond, List, [], ◌∷◌, length, drop, take, Option, Some, None, refl, sym, ap, ◌∙◌, arith}
use Rattle.std.specs.Prelude.{option_map, slice_index, ◌==◌}
use Rattle.std.specs.Str.{IsUtf8, is_utf8}
use Rattle.std.proofs.lemmas.List.{drop_more, drop-drop, drop_all, get_or-drop}
use Rattle.std.proofs.lemmas.Str.{is_utf8-from_IsUtf8, IsUtf8-from_is_utf8}
use Rattle.akl_text.specs.Computed.{is_escape, is_plain, quoted_end, quoted_at}

-- the scan at the byte a, where b is the next byte and t is what follows a
abbrev pub quoted_step : ℕ → ℕ → List ℕ → Option ℕ
quoted_step a b t = cond (is_escape a b) (option_map (λ n. 2 + n) (quoted_end (drop 1 t))) (cond (is_plain a) (option_map suc (quoted_end t)) (cond (a == 39) (Some 0) None))

no_escape : (x y : Bool) → cond x false (cond y false false) ≡ false
no_escape true y = refl
no_escape false true = refl
no_escape false false = refl

pub quoted_cons : (a : ℕ) (t : List ℕ) → quoted_end (a ∷ t) ≡ quoted_step a (slice_index t 0) t
quoted_cons a [] = rw (no_escape (a == 39) (a == 92)) refl
quoted_cons a (b ∷ t) = refl

shifted : (i j : ℕ) (o : Option ℕ) → option_map (λ k. i + k) (option_map (λ k. j + k) o) ≡ option_map (λ k. i + j + k) o
shifted i j None = refl
shifted i j (Some k) = let e : i + (j + k) ≡ i + j + k = omega arith in ap Some e

moved : (i : ℕ) (o : Option ℕ) → option_map (λ k. i + k) (option_map suc o) ≡ option_map (λ k. i + 1 + k) o
moved i None = refl
moved i (Some k) = let e : i + suc k ≡ i + 1 + k = omega arith in ap Some e

module _ (text : List ℕ) (at b : ℕ) (within : at < length text) (second : b ≡ slice_index text (at + 1)) where
  here : quoted_end (drop at text) ≡ quoted_step (slice_index text at) b (drop (at + 1) text)
  here =
      ap quoted_end (drop_more text at 0 within) ∙ quoted_cons (slice_index text at) (drop (at + 1) text)
      ∙ ap (λ (x : ℕ). quoted_step (slice_index text at) x (drop (at + 1) text))
      (get_or-drop (at + 1) text 0 0 ∙ ap (slice_index text) (let e : at + 1 + 0 ≡ at + 1 = omega arith in e) ∙ sym second)

  pub past_escape : is_escape (slice_index text at) b ≡ true
      → option_map (λ k. at + k) (quoted_end (drop at text)) ≡ option_map (λ k. at + 2 + k) (quoted_end (drop (at + 2) text))
  past_escape e = rw (here, e, drop-drop 1 (at + 1) text, let n : at + 1 + 1 ≡ at + 2 = omega arith in n) (shifted at 2 (quoted_end (drop (at + 2) text)))

  module _ (single : is_escape (slice_index text at) b ≡ false) where
    pub past_plain : is_plain (slice_index text at) ≡ true
        → option_map (λ k. at + k) (quoted_end (drop at text)) ≡ option_map (λ k. at + 1 + k) (quoted_end (drop (at + 1) text))
    past_plain e = rw (here, single, e) (moved at (quoted_end (drop (at + 1) text)))

    module _ (not_plain : is_plain (slice_index text at) ≡ false) where
      pub at_close : (slice_index text at == 39) ≡ true → option_map (λ k. at + k) (quoted_end (drop at text)) ≡ Some at
      at_close e = rw (here, single, not_plain, e) (let n : at + 0 ≡ at = omega arith in ap Some n)

      pub at_refused : (slice_index text at == 39) ≡ false → option_map (λ k. at + k) (quoted_end (drop at text)) ≡ None
      at_refused e = rw (here, single, not_plain, e) refl

pub at_end : (text : List ℕ) (at : ℕ) → length text ≤ at → option_map (λ k. at + k) (quoted_end (drop at text)) ≡ None
at_end text at h = rw (drop_all at text h) refl

pub quoted_ok : (t : List ℕ) (n : ℕ) → Some n ≡ quoted_end t → IsUtf8 (take n t) → Some n ≡ quoted_at t
quoted_ok t n e u = rw (← e, is_utf8-from_IsUtf8 (take n t) u) refl

pub quoted_not : (t : List ℕ) (n : ℕ) → Some n ≡ quoted_end t → ¬ (IsUtf8 (take n t)) → None ≡ quoted_at t
quoted_not t n e u = rw (← e) (go (is_utf8 (take n t)) refl)
  where
    go : (b : Bool) → is_utf8 (take n t) ≡ b → None ≡ cond b (Some n) None
    go true h = absurd (u (IsUtf8-from_is_utf8 (take n t) h))
    go false h = refl
