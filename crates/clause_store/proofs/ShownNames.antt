-- Which variables are shown.
use Rattle.std.proofs.Common.{◌≡◌, ℕ, suc, ◌+◌, Bool, true, false, List, [], ◌∷◌, ◌++◌, length, refl, sym, ap, ◌∙◌, arith}
use Rattle.std.specs.Prelude.{if◌then◌else◌}
use Rattle.std.proofs.lemmas.List.{length-append, append-nil}
use Rattle.akl_terms.specs.declared.program.Shown.{Shown}
use Rattle.clause_store.specs.Loaded.{is_hidden, shown_from}

pub record ShownSoFar (names : List (List ℕ)) (found : List Shown) (index : ℕ) : Type 0 where
  pub found_are : found ≡ shown_from 0 names
  pub index_is : index ≡ length names

abbrev added : Bool → List ℕ → ℕ → List Shown
added true w n = []
added false w n = record { name = w; index = n } ∷ []

shown_more : (n : ℕ) (ws : List (List ℕ)) (w : List ℕ) (b : Bool) → is_hidden w ≡ b → shown_from n (ws ++ w ∷ []) ≡ shown_from n ws ++ added b w (n + length ws)
shown_more n [] w true e = rw e refl
shown_more n [] w false e = let z : n ≡ n + 0 = omega arith in rw e (ap (λ (k : ℕ). record { name = w; index = k } ∷ []) z)
shown_more n (v ∷ ws) w b e = by_first (is_hidden v) (let z : suc n + length ws ≡ n + suc (length ws) = omega arith in shown_more (suc n) ws w b e ∙ ap (λ (k : ℕ). shown_from (suc n) ws ++ added b w k) z)
  where
    by_first : (h : Bool) → shown_from (suc n) (ws ++ w ∷ []) ≡ shown_from (suc n) ws ++ added b w (n + suc (length ws))
        → (if h then shown_from (suc n) (ws ++ w ∷ []) else record { name = v; index = n } ∷ shown_from (suc n) (ws ++ w ∷ [])) ≡ (if h then shown_from (suc n) ws else record { name = v; index = n } ∷ shown_from (suc n) ws) ++ added b w (n + suc (length ws))
    by_first true q = q
    by_first false q = ap (λ (z : List Shown). record { name = v; index = n } ∷ z) q

pub shown_start : ShownSoFar [] [] 0
shown_start = record { found_are = refl; index_is = refl }

pub shown_hidden : {ws : List (List ℕ)} (w : List ℕ) {found : List Shown} {n : ℕ} → ShownSoFar ws found n → is_hidden w ≡ true → ShownSoFar (ws ++ w ∷ []) found (n + 1)
shown_hidden {ws} w h e = record {
  found_are = h.found_are ∙ sym (append-nil (shown_from 0 ws)) ∙ sym (shown_more 0 ws w true e);
  index_is = omega (arith, h.index_is, length-append ws (w ∷ []));
}

pub shown_one : {ws : List (List ℕ)} (w : List ℕ) {found : List Shown} {n : ℕ} → ShownSoFar ws found n → is_hidden w ≡ false → ShownSoFar (ws ++ w ∷ []) (found ++ record { name = w; index = n } ∷ []) (n + 1)
shown_one {ws} w {found} {n} h e =
    let z : n ≡ 0 + length ws = omega (arith, h.index_is) in
    record {
      found_are = ap (λ (z : List Shown). z ++ record { name = w; index = n } ∷ []) h.found_are ∙ ap (λ (k : ℕ). shown_from 0 ws ++ record { name = w; index = k } ∷ []) z ∙ sym (shown_more 0 ws w false e);
      index_is = omega (arith, h.index_is, length-append ws (w ∷ []));
    }
