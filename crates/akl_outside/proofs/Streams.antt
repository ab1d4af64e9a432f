-- What a stream's answer says of the bytes that it tells.
use Rattle.std.proofs.Common.{◌≡◌, ◌<◌, ◌++◌, ℕ, List, [], Option, None, Some, length, take, ◌+◌, sym, ◌∙◌, ap, subst, arith, length-append}
use Rattle.std.specs.Prelude.{◌↔◌, Result, Ok, Err, IfOk, IfSome}
use Rattle.std.specs.Result.{result_ok}
use Rattle.std.specs.Io.{ReadsAtMost}
use Rattle.std.specs.Io.KnownBytes.{ReadConsumes}
use Rattle.akl_outside.specs.Stream.{told_bytes}

-- what holds of the number in one answer holds of that in another with the same
pub IfOk-along : {E D : Type 0} (r : Result ℕ E) (q : Result ℕ D) (P : ℕ → Type 0) → result_ok q ≡ result_ok r → IfOk r P → IfOk q P
IfOk-along (Ok n) (Ok m) P same holds = let equal : n ≡ m = cc in subst P equal holds
IfOk-along (Err e) (Ok m) P same holds = let never : ⊥ = cc in absurd never
IfOk-along r (Err d) P same holds = tt

-- a read into a buffer with room gives nothing exactly where nothing is left
pub IfOk-read_end : {E : Type 0} (start old new : Option (List ℕ)) (r : Result ℕ E) (buffer : List ℕ) → 0 < length buffer → ReadsAtMost r buffer
    → ReadConsumes old new r buffer → IfOk r (λ n. IfSome (told_bytes start old) (λ bytes. (n ≡ 0) ↔ (bytes ≡ [])))
IfOk-read_end start old new (Err e) buffer room within read = tt
IfOk-read_end None old new (Ok n) buffer room within read = tt
IfOk-read_end (Some told) None new (Ok n) buffer room within read = tt
IfOk-read_end (Some told) (Some xs) None (Ok n) buffer room within read = absurd read.0
IfOk-read_end (Some told) (Some xs) (Some ys) (Ok n) buffer room within read = (given_none, left_none)
  where
    given_none : n ≡ 0 → xs ≡ []
    given_none none = read.0 ∙ ap (λ (k : ℕ). take k buffer ++ ys) none ∙ read.1 none room

    left_none : xs ≡ [] → n ≡ 0
    left_none none = let lengths : length (take n buffer) + length ys ≡ 0 = sym (length-append (take n buffer) ys) ∙ ap (λ (zs : List ℕ). length zs) (sym read.0 ∙ none) in omega (arith, within.1, lengths)
