-- The table of brackets, entry by entry.
use Rattle.std.proofs.Common.{◌≡◌, ℕ, zero, suc, ◌-◌, ◌<◌, ◌≤◌, List, [], ◌∷◌, ◌++◌, length, take, drop, ◌+◌, refl, sym, ap, subst, ◌∙◌, arith, append_assoc}
use Rattle.std.proofs.lemmas.List.{length-append, append-nil, drop_at, take_all, get_or_append_left}
use Rattle.std.proofs.Math.Seq.{get_or-append_seam}
use Rattle.std.specs.Prelude.{slice_index}
use Rattle.akl_lexemes.specs.declared.lexeme.Lexeme.{Lexeme}
use Rattle.akl_lexemes.specs.declared.brackets.Turn.{Turn}
use Rattle.akl_lexemes.specs.declared.brackets.Turn.TheVariants.{Opens, Closes, Stays}
use Rattle.akl_lexemes.specs.Brackets.{turn, behind_turn, behind_close, IsTable, next_entry}

-- ---- what holds of lexemes, and with any lexemes of those behind the first, holds behind the closing bracket
module _ (P : List Lexeme → Type 0) (behind : (o : Lexeme) (a : List Lexeme) → P (o ∷ a) → P a) where
  turn_rest : (t : Turn) (n : ℕ) (a : List Lexeme) → ((k : ℕ) → P (behind_close k a)) → P a → P (behind_turn t n a (λ k. behind_close k a))
  turn_rest Opens n a later h = later (suc n)
  turn_rest Closes zero a later h = h
  turn_rest Closes (suc n) a later h = later n
  turn_rest Stays n a later h = later n

  pub close_rest : (n : ℕ) (a : List Lexeme) → P a → P (behind_close n a)
  close_rest n [] h = h
  close_rest n (o ∷ a) h = turn_rest (turn o) n a (λ k. close_rest k a (behind o a h)) (behind o a h)

-- ---- one bracket more
turn_again : (t : Turn) (k : ℕ) (a : List Lexeme) → ((n : ℕ) → behind_close (suc n) a ≡ behind_close 0 (behind_close n a))
    → behind_turn t (suc k) a (λ n. behind_close n a) ≡ behind_close 0 (behind_turn t k a (λ n. behind_close n a))
turn_again Opens k a later = later (suc k)
turn_again Closes zero a later = refl
turn_again Closes (suc k) a later = later k
turn_again Stays k a later = later k

close_again : (k : ℕ) (a : List Lexeme) → behind_close (suc k) a ≡ behind_close 0 (behind_close k a)
close_again k [] = refl
close_again k (o ∷ a) = turn_again (turn o) k a (λ n. close_again n a)

-- ---- entries
entry_is : (table : List ℕ) (a : List Lexeme) → IsTable table a → slice_index table (length a) ≡ length (behind_close 0 a)
entry_is table [] h = h
entry_is table (o ∷ a) h = h.0

pub table_behind : (table : List ℕ) (o : Lexeme) (a : List Lexeme) → IsTable table (o ∷ a) → IsTable table a
table_behind table o a h = h.1

next_is : (table : List ℕ) (a : List Lexeme) (t : Turn) → IsTable table a → length table - 1 ≡ length a → next_entry t table ≡ length (behind_turn t 0 a (λ n. behind_close n a))
next_is table a Opens h e =
    rw (e, entry_is table a h, close_again 0 a) (entry_is table (behind_close 0 a) (close_rest (IsTable table) (table_behind table) 0 a h))
next_is table a Closes h e = e
next_is table a Stays h e = rw e (entry_is table a h)

grown : (table more : List ℕ) (a : List Lexeme) → length a < length table → IsTable table a → IsTable (table ++ more) a
grown table more [] l h = get_or_append_left table more 0 0 l ∙ h
grown table more (o ∷ a) l h = (get_or_append_left table more 0 (suc (length a)) l ∙ h.0, grown table more a (omega (arith, l)) h.1)

one_more : (table : List ℕ) (o : Lexeme) (a : List Lexeme) → IsTable table a → length table ≡ suc (length a) → IsTable (table ++ next_entry (turn o) table ∷ []) (o ∷ a)
one_more table o a h e =
    let x : ℕ = next_entry (turn o) table in
    let here : slice_index (table ++ x ∷ []) (suc (length a)) ≡ x = subst (λ (n : ℕ). slice_index (table ++ x ∷ []) n ≡ x) e (get_or-append_seam table x [] 0) in
    (here ∙ next_is table a (turn o) h (omega (arith, e)), grown table (x ∷ []) a (omega (arith, e)) h)

-- ---- the pass
pub record TableSoFar (lexemes rest : List Lexeme) (table : List ℕ) : Type 0 where
  pub passed : List Lexeme
  pub parts : lexemes ≡ rest ++ passed
  pub right : IsTable table passed
  pub count : length table ≡ suc (length passed)

pub table_start : (lexemes : List Lexeme) → TableSoFar lexemes lexemes (0 ∷ [])
table_start lexemes = record { passed = []; parts = sym (append-nil lexemes); right = refl; count = refl }

pub table_step : {lexemes rest before : List Lexeme} {table : List ℕ} (last : Lexeme) → TableSoFar lexemes rest table → rest ≡ before ++ last ∷ [] → TableSoFar lexemes before (table ++ next_entry (turn last) table ∷ [])
table_step {before = before} {table = table} last h e = record {
  passed = last ∷ h.passed;
  parts = h.parts ∙ ap (λ (z : List Lexeme). z ++ h.passed) e ∙ append_assoc before (last ∷ []) h.passed;
  right = one_more table last h.passed h.right h.count;
  count = omega (arith, length-append table (next_entry (turn last) table ∷ []), h.count);
}

pub table_end : {lexemes rest : List Lexeme} {table : List ℕ} → TableSoFar lexemes rest table → rest ≡ [] → IsTable table lexemes
table_end {table = table} h e = subst (λ (z : List Lexeme). IsTable table z) (sym (h.parts ∙ ap (λ (z : List Lexeme). z ++ h.passed) e)) h.right

-- ---- the look ahead
abbrev EndsWith : List Lexeme → List Lexeme → Type 0
EndsWith a b = (w : List Lexeme) × (a ≡ w ++ b)

ends_behind : (a : List Lexeme) (o : Lexeme) (b : List Lexeme) → EndsWith a (o ∷ b) → EndsWith a b
ends_behind a o b h = (h.0 ++ o ∷ [], h.1 ∙ sym (append_assoc h.0 (o ∷ []) b))

ends_closed : (a : List Lexeme) → EndsWith a (behind_close 0 a)
ends_closed a = close_rest (EndsWith a) (ends_behind a) 0 a ([], refl)

pub closed_within : (table : List ℕ) (a : List Lexeme) (n : ℕ) → IsTable table a → n ≡ slice_index table (length a) → n ≤ length a
closed_within table a n h e = (let s = ends_closed a in omega (arith, e, entry_is table a h, ap length s.1, length-append s.0 (behind_close 0 a)))

pub closed_is : (table : List ℕ) (a : List Lexeme) (n : ℕ) → IsTable table a → n ≡ slice_index table (length a) → take (length a - (length a - n)) (drop (length a - n) a) ≡ behind_close 0 a
closed_is table a n h e =
    let s = ends_closed a in
    let sum : length a ≡ length s.0 + length (behind_close 0 a) = ap length s.1 ∙ length-append s.0 (behind_close 0 a) in
    let many : n ≡ length (behind_close 0 a) = e ∙ entry_is table a h in
    let parts : drop (length a - n) a ≡ behind_close 0 a = ap (drop (length a - n)) s.1 ∙ drop_at s.0 (behind_close 0 a) (length a - n) (omega (arith, sum, many)) in
    rw parts (take_all (length a - (length a - n)) (behind_close 0 a) (omega (arith, sum, many)))
