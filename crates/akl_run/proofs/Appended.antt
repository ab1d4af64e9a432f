-- Texts that are appended one after another.
use Rattle.std.proofs.Common.{◌≡◌, ℕ, ◌+◌, ◌-◌, ◌^◌, ◌≤◌, ◌<◌, List, [], ◌∷◌, ◌++◌, length, take, drop, refl, sym, ◌∙◌, ap, subst, append_assoc, arith}
use Rattle.std.specs.Prelude.{min, codes}
use Rattle.std.specs.Fmt.{decimal}
use Rattle.std.specs.Io.KnownBytes.{append_known}
use Rattle.std.proofs.Math.Nat.{min-le_left, min-le_right, le-min}
use Rattle.std.proofs.lemmas.List.{length-append, take-append-drop, length-take-le}
use Rattle.akl_outside.specs.Counts.{Rose}
use Rattle.akl_outside.proofs.Pieces.{append_known-nil, append_known-append}
use Rattle.akl_run.specs.declared.output.Unwritten.{Unwritten}
use Rattle.akl_run.specs.Outputs.{Outlet, HasAppended, IsCause, HasBrokenOff, PartsOf, ShortOf}

pub nothing_appended : (before : Outlet) → HasAppended before before []
nothing_appended before = record { bytes = append_known-nil before.sink.bytes; counted = omega arith; faults = omega arith }

pub appended_both : {before middle after : Outlet} (front back : List ℕ) → HasAppended before middle front → HasAppended middle after back → HasAppended before after (front ++ back)
appended_both {before} {middle} {after} front back x y =
    let long : length (front ++ back) ≡ length front + length back = length-append front back in
    record {
      bytes = append_known-append before.sink.bytes middle.sink.bytes after.sink.bytes front back x.bytes y.bytes;
      counted = omega (arith, x.counted, y.counted, long);
      faults = omega (arith, x.faults, y.faults);
    }

rose_later : (before middle after : ℕ) → before ≤ middle → Rose middle after → Rose before after
rose_later before middle after h r =
    let small : min (before + 1) (2 ^ 64 - 1) ≤ before + 1 = min-le_left (before + 1) (2 ^ 64 - 1) in
    let last : min (before + 1) (2 ^ 64 - 1) ≤ 2 ^ 64 - 1 = min-le_right (before + 1) (2 ^ 64 - 1) in
    let next : min (before + 1) (2 ^ 64 - 1) ≤ min (middle + 1) (2 ^ 64 - 1) = le-min (omega (arith, small, h)) last in
    omega (arith, next, r)

pub cause_later : (before middle after : Outlet) (cause : Unwritten) → before.sink.faults ≤ middle.sink.faults → IsCause middle after cause → IsCause before after cause
cause_later before middle after Unwritten.Fault h r = rose_later before.sink.faults middle.sink.faults after.sink.faults h r
cause_later before middle after Unwritten.Memory h r = tt

-- what broke off behind a text that was appended
pub broke_later : {P Q : List ℕ → List ℕ → Type 0} {before middle after : Outlet} {cause : Unwritten} (text : List ℕ) → HasAppended before middle text
    → ((front rest : List ℕ) → P front rest → Q (text ++ front) rest) → HasBrokenOff P middle after cause → HasBrokenOff Q before after cause
broke_later {before = before} {middle = middle} {after = after} {cause = cause} text x f b = record {
  front = text ++ b.front;
  rest = b.rest;
  are_parts = f b.front b.rest b.are_parts;
  appended = appended_both text b.front x b.appended;
  is_cause = cause_later before middle after cause x.faults b.is_cause;
}

-- no memory for what comes behind a text that was appended
pub no_memory_behind : {Q : List ℕ → List ℕ → Type 0} {before after : Outlet} (text rest : List ℕ) → HasAppended before after text → Q text rest → HasBrokenOff Q before after Unwritten.Memory
no_memory_behind text rest x q = record { front = text; rest = rest; are_parts = q; appended = x; is_cause = tt }

-- no memory for anything of a text
pub no_memory_for : (text : List ℕ) (before : Outlet) → 0 < length text → HasBrokenOff (ShortOf text) before before Unwritten.Memory
no_memory_for text before h = no_memory_behind [] text (nothing_appended before) (record { whole = refl; more = h })

-- what broke off in a piece broke off in the text that has it, behind what was appended before
pub broke_within : {before middle after : Outlet} {cause : Unwritten} (front piece back text : List ℕ) → front ++ (piece ++ back) ≡ text → HasAppended before middle front → HasBrokenOff (ShortOf piece) middle after cause
    → HasBrokenOff (PartsOf text) before after cause
broke_within {before} {middle} {after} {cause} front piece back text e x b = record {
  front = front ++ b.front;
  rest = b.rest ++ back;
  are_parts = append_assoc front b.front (b.rest ++ back) ∙ ap (λ (xs : List ℕ). front ++ xs) (sym (append_assoc b.front b.rest back) ∙ ap (λ (xs : List ℕ). xs ++ back) b.are_parts.whole) ∙ e;
  appended = appended_both front b.front x b.appended;
  is_cause = cause_later before middle after cause x.faults b.is_cause;
}

pub broke_as_text : {before after : Outlet} {cause : Unwritten} (piece text : List ℕ) → piece ≡ text → HasBrokenOff (ShortOf piece) before after cause → HasBrokenOff (ShortOf text) before after cause
broke_as_text {before} {after} {cause} piece text e b = subst (λ (xs : List ℕ). HasBrokenOff (ShortOf xs) before after cause) e b

-- a piece of which the first bytes were taken
pub short_piece : (text : List ℕ) (n : ℕ) → n < length text → ShortOf text (take n text) (drop n text)
short_piece text n h =
    let whole : take n text ++ drop n text ≡ text = take-append-drop n text in
    let first : length (take n text) ≡ n = length-take-le n text (omega (arith, h)) in
    let long : length (take n text ++ drop n text) ≡ length (take n text) + length (drop n text) = length-append (take n text) (drop n text) in
    let all : length (take n text ++ drop n text) ≡ length text = ap length whole in
    record { whole = whole; more = omega (arith, first, long, all, h) }

pub broke_in : (bytes after_bytes : _) (faults after_faults written n : ℕ) (text : List ℕ) → after_bytes ≡ append_known bytes (take n text) → n < length text → Rose faults after_faults → faults ≤ after_faults
    → HasBrokenOff (ShortOf text) (record { sink = record { bytes = bytes; faults = faults }; written = written }) (record { sink = record { bytes = after_bytes; faults = after_faults }; written = written + n }) Unwritten.Fault
broke_in bytes after_bytes faults after_faults written n text w h r k =
    let first : length (take n text) ≡ n = length-take-le n text (omega (arith, h)) in
    record {
      front = take n text;
      rest = drop n text;
      are_parts = short_piece text n h;
      appended = record { bytes = w; counted = omega (arith, first); faults = k };
      is_cause = r;
    }

-- the line of an answer's number, and its lines
pub answer_parts : (number : ℕ) (head lines : List ℕ) → head ≡ codes "answer " ++ decimal number ++ codes "\n" → head ++ lines ≡ codes "answer " ++ decimal number ++ 10 ∷ lines
answer_parts number head lines e = ap (λ (xs : List ℕ). xs ++ lines) e ∙ append_assoc (codes "answer " ++ decimal number) (10 ∷ []) lines
