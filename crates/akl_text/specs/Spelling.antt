-- How a token of each kind is spelled, and which text it stands for.
use Rattle.std.specs.Prelude.{ℕ, ◌≤◌, ◌-◌, IsTrue, List, ◌∷◌, ◌++◌, length, take, drop, codes, encode_utf8_all, ℤ}
use Rattle.std.specs.List.{list_all}
use Rattle.std.specs.Str.Parse.{signed_digits_value}
use Rattle.akl_terms.specs.Words.{is_upper, is_digit, is_word, is_plain_name}
use Rattle.akl_text.specs.Quotes.{Quotes}
use Rattle.akl_text.specs.declared.token.Kind.{Kind}
use Rattle.akl_text.specs.declared.token.Kind.TheVariants.{Name, Variable, Integer, Quoted, OpenCall, Open, Close, OpenList, CloseList, Comma, Bar, Semicolon, Neck, Arrow, Question, Equal, Less, Greater, AtMost, AtLeast, Same, Differs, Plus, Minus, Star, Div, Is, Mod, End}
use Rattle.akl_text.specs.declared.token.Token.{Token}

-- The table of kinds: how each is spelled.
pub data Spells : Kind → List ℕ → Type 0 where
  name : {w : List ℕ} → IsTrue (is_plain_name w) → Spells Name w
  variable : {b : ℕ} {w : List ℕ} → IsTrue (is_upper b) → IsTrue (list_all is_word w) → Spells Variable (b ∷ w)
  natural : {b : ℕ} {w : List ℕ} → IsTrue (is_digit b) → IsTrue (list_all is_digit w) → Spells Integer (b ∷ w)
  negative : {b : ℕ} {w : List ℕ} → IsTrue (is_digit b) → IsTrue (list_all is_digit w) → Spells Integer (codes "-" ++ b ∷ w)
  quoted : {cs text : List ℕ} → Quotes cs text → Spells Quoted (codes "'" ++ encode_utf8_all cs ++ codes "'")
  call_bracket : Spells OpenCall (codes "(")
  bracket : Spells Open (codes "(")
  close : Spells Close (codes ")")
  open_list : Spells OpenList (codes "[")
  close_list : Spells CloseList (codes "]")
  comma : Spells Comma (codes ",")
  bar : Spells Bar (codes "|")
  semicolon : Spells Semicolon (codes ";")
  neck : Spells Neck (codes ":-")
  arrow : Spells Arrow (codes "->")
  question : Spells Question (codes "?")
  equal : Spells Equal (codes "=")
  less : Spells Less (codes "<")
  greater : Spells Greater (codes ">")
  at_most : Spells AtMost (codes "=<")
  at_least : Spells AtLeast (codes ">=")
  same : Spells Same (codes "=:=")
  differs : Spells Differs (codes "=\\=")
  plus : Spells Plus (codes "+")
  minus : Spells Minus (codes "-")
  star : Spells Star (codes "*")
  div : Spells Div (codes "//")
  word_is : Spells Is (codes "is")
  word_mod : Spells Mod (codes "mod")
  end : Spells End (codes ".")

-- the text that a spelling stands for: a name and a variable for itself, quoted text for what its quotes hold
pub data Denotes : Kind → List ℕ → List ℕ → Type 0 where
  name_itself : {w : List ℕ} → Denotes Name w w
  variable_itself : {w : List ℕ} → Denotes Variable w w
  between_quotes : {cs text : List ℕ} → Quotes cs text → Denotes Quoted (codes "'" ++ encode_utf8_all cs ++ codes "'") (encode_utf8_all text)

-- the integer of an Integer token: its digits in base ten, negated where it begins with a sign
abbrev pub integer_value : List ℕ → ℤ
integer_value w = signed_digits_value 10 w

-- the bytes of a token
abbrev pub spelling : List ℕ → Token → List ℕ
spelling bytes token = take (token.end - token.start) (drop token.start bytes)

-- a token of these bytes: it lies within them, and is spelled as its kind is
pub record IsTokenOf (bytes : List ℕ) (token : Token) : Type 0 where
  pub ordered : token.start ≤ token.end
  pub within : token.end ≤ length bytes
  pub spelled : Spells token.kind (spelling bytes token)
