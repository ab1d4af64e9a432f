-- One more line of a trace.
use Rattle.std.proofs.Common.{◌≡◌, ℕ, zero, suc, ◌+◌, ◌<◌, List, [], ◌∷◌, ◌++◌, Bool, true, false, length, take, drop, get_or, None, refl, sym, ap, ◌∙◌, arith, append_assoc, append-nil}
use Rattle.akl_terms.specs.declared.name.Place.{Place}
use Rattle.akl_model.specs.declared.label.Rule.{Rule}
use Rattle.akl_model.specs.declared.label.Label.{Label}
use Rattle.akl_run.specs.Traces.{trace_line, trace_lines, trace_text}

lines_more : (k : ℕ) (ls : List Label) (i : ℕ) (d : Label) → i < length ls → trace_lines k (take (suc i) ls) ≡ trace_lines k (take i ls) ++ trace_line (i + k) (get_or ls i d)
lines_more k [] i d l = absurd (omega arith)
lines_more k (x ∷ xs) zero d l = let e : k ≡ 0 + k = omega arith in append-nil (trace_line k x) ∙ ap (λ (n : ℕ). trace_line n x) e
lines_more k (x ∷ xs) (suc i) d l =
    let e : i + suc k ≡ suc i + k = omega arith in
    ap (λ text. trace_line k x ++ text) (lines_more (suc k) xs i d (omega arith))
    ∙ sym (append_assoc (trace_line k x) (trace_lines (suc k) (take i xs)) (trace_line (i + suc k) (get_or xs i d)))
    ∙ ap (λ (n : ℕ). (trace_line k x ++ trace_lines (suc k) (take i xs)) ++ trace_line n (get_or xs i d)) e

pub lines_next : (k : ℕ) (ls : List Label) (i : ℕ) (d : Label) → i < length ls → trace_lines k (take (i + 1) ls) ≡ trace_lines k (take i ls) ++ trace_line (i + k) (get_or ls i d)
lines_next k ls i d l = let e : i + 1 ≡ suc i = omega arith in ap (λ (n : ℕ). trace_lines k (take n ls)) e ∙ lines_more k ls i d l

-- the lines of the first labels, and those of the others
pub lines_behind : (k : ℕ) (ls : List Label) (i : ℕ) → trace_lines k (take i ls) ++ trace_lines (i + k) (drop i ls) ≡ trace_lines k ls
lines_behind k ls zero = let e : 0 + k ≡ k = omega arith in ap (λ (n : ℕ). trace_lines n ls) e
lines_behind k [] (suc i) = refl
lines_behind k (x ∷ xs) (suc i) =
    let e : suc i + k ≡ i + suc k = omega arith in
    ap (λ (n : ℕ). (trace_line k x ++ trace_lines (suc k) (take i xs)) ++ trace_lines n (drop i xs)) e
    ∙ append_assoc (trace_line k x) (trace_lines (suc k) (take i xs)) (trace_lines (i + suc k) (drop i xs))
    ∙ ap (λ text. trace_line k x ++ text) (lines_behind (suc k) xs i)

-- a label's line stands between them
pub line_between : (k : ℕ) (ls : List Label) (i : ℕ) (d : Label) → i < length ls
    → trace_lines k (take i ls) ++ (trace_line (i + k) (get_or ls i d) ++ trace_lines ((i + 1) + k) (drop (i + 1) ls)) ≡ trace_lines k ls
line_between k ls i d l =
    sym (append_assoc (trace_lines k (take i ls)) (trace_line (i + k) (get_or ls i d)) (trace_lines ((i + 1) + k) (drop (i + 1) ls)))
    ∙ ap (λ text. text ++ trace_lines ((i + 1) + k) (drop (i + 1) ls)) (sym (lines_next k ls i d l))
    ∙ lines_behind k ls (i + 1)

pub traced : (trace : Bool) (ls : List Label) → trace ≡ true → trace_lines 1 ls ≡ trace_text trace ls
traced true ls e = refl
traced false ls e = absurd cc

-- for places at which there is no label
abbrev pub any_label : Label
any_label = record { rule = Rule.Tell; place = Place.Goal (record { worker = 0; number = 0 }); alternative = None; worker = 0 }
