-- What may stand between tokens.
use Rattle.std.specs.Prelude.{◌≡◌, ◌≢◌, ℕ, ◌+◌, Bool, true, not, ◌==◌, IsTrue, List, [], ◌∷◌, ◌++◌, length, drop, codes}
use Rattle.std.specs.List.{list_all}
use Rattle.akl_text.specs.Bytes.{is_blank}

-- the text is at its end or at the end of a line
abbrev pub ends_line : List ℕ → Bool
ends_line [] = true
ends_line (b ∷ t) = b == 10

-- One piece of layout, followed by the rest of the text. A line comment ends before the next newline or
-- with the text. A block comment ends with the first `*/`, so it holds none, and block comments do not nest.
pub data IsLayout : List ℕ → List ℕ → Type 0 where
  blank : {b : ℕ} {rest : List ℕ} → IsTrue (is_blank b) → IsLayout (b ∷ []) rest
  line_comment : {w rest : List ℕ} → IsTrue (list_all (λ b. not (b == 10)) w) → IsTrue (ends_line rest) → IsLayout (codes "%" ++ w) rest
  block_comment : {w rest : List ℕ} → ((u v : List ℕ) → w ≢ u ++ (codes "*/" ++ v)) → IsLayout (codes "/*" ++ w ++ codes "*/") rest

-- layout is passed over from a place up to another, where none follows
pub data Skips : ℕ → List ℕ → ℕ → Type 0 where
  stays : {at : ℕ} {text : List ℕ} → ((w rest : List ℕ) → text ≡ w ++ rest → IsLayout w rest → ⊥) → Skips at text at
  layout : {at place : ℕ} {text w rest : List ℕ} → text ≡ w ++ rest → IsLayout w rest → Skips (at + length w) rest place → Skips at text place

abbrev pub SkipsFrom : List ℕ → ℕ → ℕ → Type 0
SkipsFrom bytes from to = Skips from (drop from bytes) to
