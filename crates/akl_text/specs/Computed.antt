-- What the scanner computes at the front of a text. Clauses of private functions alone cite it: what a token is, is
-- said by `Spelling`, `Front` and `Tokens`, and the proofs show that the two agree.
use Rattle.std.specs.Prelude.{ℕ, suc, ◌+◌, ◌-◌, Bool, true, false, List, [], ◌∷◌, length, take, drop, Option, Some, None}
use Rattle.std.specs.Prelude.{not, ◌&&◌, ◌||◌, ◌==◌, nat_le, nat_lt, option_map, if◌then◌else◌, codes, slice_index, bytes_eq}
use Rattle.std.specs.List.{prefix_len}
use Rattle.std.specs.Str.{is_utf8}
use Rattle.akl_text.specs.Bytes.{is_blank}
use Rattle.akl_terms.specs.Words.{is_lower, is_upper, is_digit, is_word}
use Rattle.akl_text.specs.Front.{allows_sign, opens_call, ends_clause}
use Rattle.akl_text.specs.declared.token.Kind.{Kind}
use Rattle.akl_text.specs.declared.token.Kind.TheVariants.{Name, Variable, Integer, Quoted, OpenCall, Open, Close, OpenList, CloseList, Comma, Bar, Semicolon, Neck, Arrow, Question, Equal, Less, Greater, AtMost, AtLeast, Same, Differs, Plus, Minus, Star, Div, Is, Mod, End}
use Rattle.akl_text.specs.declared.token.Token.{Token}

-- how many bytes up to the next `*/` and with it, after a `*` or not
abbrev pub block_len : Bool → List ℕ → Option ℕ
block_len star [] = None
block_len star (b ∷ t) = if star && b == 47 then Some 1 else option_map suc (block_len (b == 42) t)

-- the length of the piece of layout at the front
unfoldable pub layout_at : List ℕ → Option ℕ
layout_at text =
    if is_blank (slice_index text 0) then Some 1
    else if slice_index text 0 == 37 then Some (1 + prefix_len (λ b. not (b == 10)) (drop 1 text))
    else if slice_index text 0 == 47 && slice_index text 1 == 42 then option_map (λ n. 2 + n) (block_len false (drop 2 text))
    else None

-- two bytes between quotes that stand for one character
abbrev pub is_escape : ℕ → ℕ → Bool
is_escape a b = if a == 39 then b == 39 else if a == 92 then b == 39 || b == 92 || b == 110 || b == 116 else false

-- a byte between quotes that stands for itself, or is a part of such a character
abbrev pub is_plain : ℕ → Bool
is_plain b = nat_le 32 b && not (b == 39 || b == 92 || b == 127)

-- how many bytes stand before the closing quote
abbrev pub quoted_end : List ℕ → Option ℕ
quoted_end [] = None
quoted_end (a ∷ []) = if is_plain a then None else if a == 39 then Some 0 else None
quoted_end (a ∷ b ∷ t) =
    if is_escape a b then option_map (λ n. 2 + n) (quoted_end t)
    else if is_plain a then option_map suc (quoted_end (b ∷ t))
    else if a == 39 then Some 0 else None

-- the same where the bytes before the closing quote are UTF-8
abbrev pub if_utf8 : List ℕ → Option ℕ → Option ℕ
if_utf8 t (Some n) = if is_utf8 (take n t) then Some n else None
if_utf8 t None = None

abbrev pub quoted_at : List ℕ → Option ℕ
quoted_at t = if_utf8 t (quoted_end t)

abbrev pub word_kind : List ℕ → Kind
word_kind w = if bytes_eq w (codes "is") then Is else if bytes_eq w (codes "mod") then Mod else Name

-- the kind and the length of the token at the front: of one byte, of up to three, of any mark, and of all
abbrev pub bracket_at : ℕ → Option (Kind × ℕ)
bracket_at a =
    if a == 41 then Some (Close, 1) else if a == 91 then Some (OpenList, 1) else if a == 93 then Some (CloseList, 1)
    else if a == 44 then Some (Comma, 1) else if a == 124 then Some (Bar, 1) else if a == 59 then Some (Semicolon, 1)
    else if a == 63 then Some (Question, 1) else if a == 60 then Some (Less, 1)
    else if a == 43 then Some (Plus, 1) else if a == 42 then Some (Star, 1) else None

abbrev pub operator_at : ℕ → ℕ → ℕ → Option (Kind × ℕ)
operator_at a b c =
    if a == 61 && (b == 58 && c == 61) then Some (Same, 3)
    else if a == 61 && (b == 92 && c == 61) then Some (Differs, 3)
    else if a == 61 && b == 60 then Some (AtMost, 2)
    else if a == 61 then Some (Equal, 1)
    else if a == 58 && b == 45 then Some (Neck, 2)
    else if a == 45 && b == 62 then Some (Arrow, 2)
    else if a == 45 then Some (Minus, 1)
    else if a == 62 && b == 61 then Some (AtLeast, 2)
    else if a == 62 then Some (Greater, 1)
    else if a == 47 && b == 47 then Some (Div, 2)
    else bracket_at a

unfoldable pub mark_at : Option Token → ℕ → List ℕ → Option (Kind × ℕ)
mark_at before at text =
    if slice_index text 0 == 39 then option_map (λ n. (Quoted, 2 + n)) (quoted_at (drop 1 text))
    else if slice_index text 0 == 40 && opens_call before at then Some (OpenCall, 1)
    else if slice_index text 0 == 40 then Some (Open, 1)
    else if slice_index text 0 == 46 && ends_clause (drop 1 text) then Some (End, 1)
    else operator_at (slice_index text 0) (slice_index text 1) (slice_index text 2)

abbrev pub is_negative : List ℕ → Option Token → Bool
is_negative text before = slice_index text 0 == 45 && allows_sign before && nat_lt 0 (prefix_len is_digit (drop 1 text))

unfoldable pub front_at : Option Token → ℕ → List ℕ → Option (Kind × ℕ)
front_at before at text =
    if is_lower (slice_index text 0) then Some (word_kind (take (prefix_len is_word text) text), prefix_len is_word text)
    else if is_upper (slice_index text 0) then Some (Variable, prefix_len is_word text)
    else if is_digit (slice_index text 0) then Some (Integer, prefix_len is_digit text)
    else if is_negative text before then Some (Integer, 1 + prefix_len is_digit (drop 1 text))
    else mark_at before at text

-- what a character stands for after a quote or a backslash
abbrev pub meaning : ℕ → ℕ
meaning c = if c == 110 then 10 else if c == 116 then 9 else c

-- a character between quotes that begins an escape
abbrev pub is_mark : ℕ → Bool
is_mark c = c == 39 || c == 92

-- the text of the characters between quotes, after the first half of an escape or not
abbrev pub decode : Bool → List ℕ → List ℕ
decode escaped [] = []
decode true (c ∷ cs) = meaning c ∷ decode false cs
decode false (c ∷ cs) = if is_mark c then decode true cs else c ∷ decode false cs

-- without the first and the last byte
abbrev pub inside : List ℕ → List ℕ
inside w = take (length w - 1 - 1) (drop 1 w)
