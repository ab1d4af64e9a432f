-- What stands between single quotes, and the text that it stands for, both as lists of characters.
use Rattle.std.specs.Prelude.{◌≢◌, ℕ, ◌≤◌, List, [], ◌∷◌}
use Rattle.std.specs.Char.{IsScalar}

-- a character that stands for itself: from U+0020 on, but no quote, no backslash and not U+007F
pub record IsPlain (c : ℕ) : Type 0 where
  pub scalar : IsScalar c
  pub printable : 32 ≤ c
  pub not_quote : c ≢ 39
  pub not_backslash : c ≢ 92
  pub not_delete : c ≢ 127

-- two characters that stand for one: `''` and `\'` for a quote, `\\`, `\n` and `\t`
pub data IsEscape : ℕ → ℕ → ℕ → Type 0 where
  twice : IsEscape 39 39 39
  quote : IsEscape 92 39 39
  backslash : IsEscape 92 92 92
  newline : IsEscape 92 110 10
  tab : IsEscape 92 116 9

-- the characters between the quotes, and those of the text
pub data Quotes : List ℕ → List ℕ → Type 0 where
  nothing : Quotes [] []
  plain : {c : ℕ} {cs text : List ℕ} → IsPlain c → Quotes cs text → Quotes (c ∷ cs) (c ∷ text)
  escape : {a b c : ℕ} {cs text : List ℕ} → IsEscape a b c → Quotes cs text → Quotes (a ∷ b ∷ cs) (c ∷ text)
