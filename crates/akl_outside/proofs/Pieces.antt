-- Bytes that are read and written in pieces.
use Rattle.std.proofs.Common.{◌≡◌, [], refl, subst, ◌≤◌, ◌+◌, ◌-◌, ℕ, List, ◌++◌, Option, None, Some, length, take, drop, sym, ◌∙◌, ap, append_assoc, length-take-le, take-append-drop}
use Rattle.std.proofs.Math.Seq.{take-add}
use Rattle.std.proofs.lemmas.List.{append-nil, take_at, drop-drop, take_rest}
use Rattle.std.specs.Io.KnownBytes.{prepend_known, append_known}
use Rattle.akl_outside.specs.Transfer.{Moves}
use Rattle.akl_outside.specs.Transfer.Moves.{go_on}

-- no bytes stand behind what was written
pub append_known-nil : (written : Option (List ℕ)) → written ≡ append_known written []
append_known-nil None = refl
append_known-nil (Some xs) = ap (λ (bytes : List ℕ). Some bytes) (sym (append-nil xs))

-- what was written in two pieces was written
pub append_known-append : (old middle new : Option (List ℕ)) (front back : List ℕ) → middle ≡ append_known old front
    → new ≡ append_known middle back → new ≡ append_known old (front ++ back)
append_known-append None middle new front back first second = second ∙ ap (λ (x : Option (List ℕ)). append_known x back) first
append_known-append (Some xs) middle new front back first second =
    second ∙ ap (λ (x : Option (List ℕ)). append_known x back) first ∙ ap (λ (x : List ℕ). Some x) (append_assoc xs front back)

-- no bytes stand before what is left
pub prepend_known-nil : (left : Option (List ℕ)) (bytes : List ℕ) → bytes ≡ [] → left ≡ prepend_known bytes left
prepend_known-nil None bytes none = refl
prepend_known-nil (Some xs) bytes none = ap (λ (front : List ℕ). Some (front ++ xs)) (sym none)

-- what was read in two pieces was read
pub prepend_known-append : (old middle new : Option (List ℕ)) (front back : List ℕ) → old ≡ prepend_known front middle
    → middle ≡ prepend_known back new → old ≡ prepend_known (front ++ back) new
prepend_known-append old middle None front back first second = first ∙ ap (prepend_known front) second
prepend_known-append old middle (Some xs) front back first second =
    first ∙ ap (prepend_known front) second ∙ ap (λ (x : List ℕ). Some x) (sym (append_assoc front back xs))

-- a text's next piece lengthens the front that was written
pub take_next : (written count : ℕ) (bytes : List ℕ)
    → take written bytes ++ take count (take (length bytes - written) (drop written bytes)) ≡ take (written + count) bytes
take_next written count bytes = ap (λ (x : List ℕ). take written bytes ++ take count x) (take_rest bytes written) ∙ sym (take-add written count bytes)

-- what stands at a buffer's front after a copy, and what is left behind it, are what was left before
pub copied_front : (given count : ℕ) (bytes copied rest : List ℕ) → count ≤ length (drop given bytes)
    → copied ≡ take count (drop given bytes)
    → drop given bytes ≡ take count (copied ++ rest) ++ drop (given + count) bytes
copied_front given count bytes copied rest within same =
    let left = drop given bytes in
    let whole : take count (copied ++ rest) ≡ take count left = take_at copied rest count (ap length same ∙ length-take-le count left within) ∙ same in
    sym (take-append-drop count left) ∙ ap (λ (x : List ℕ). x ++ drop count left) (sym whole)
    ∙ ap (λ (x : List ℕ). take count (copied ++ rest) ++ x) (drop-drop count given bytes)

-- a further call moved a further piece of the whole
pub moves_on : {S : Type 0} (Call : S → List ℕ → S → Type 0) (start middle last : S) (front back whole : List ℕ) → Moves Call start front middle
    → Call middle back last → whole ≡ front ++ back → Moves Call start whole last
moves_on Call start middle last front back whole moved call joined = subst (λ (bytes : List ℕ). Moves Call start bytes last) (sym joined) (go_on front back middle last moved call)
