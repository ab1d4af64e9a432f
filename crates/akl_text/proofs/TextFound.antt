-- The text of a token.
use Rattle.std.proofs.Common.{◌≡◌, ℕ, zero, suc, ◌<◌, ◌≤◌, true, false, List, [], ◌∷◌, ◌++◌, length, refl, sym, ap, subst, ◌∙◌, arith}
use Rattle.std.specs.Prelude.{encode_utf8_all}
use Rattle.std.specs.List.{list_all}
use Rattle.std.specs.Str.{IsUtf8, IsAscii, chars}
use Rattle.std.proofs.lemmas.Bool.{ne_eqb, and_parts}
use Rattle.std.proofs.lemmas.Bool.Decides.{nat_tests}
use Rattle.std.proofs.lemmas.List.{take_at, length-append}
use Rattle.std.proofs.lemmas.Str.{IsUtf8-from_ascii, chars-encodes}
use Rattle.akl_terms.specs.Words.{is_word}
use Rattle.akl_text.specs.Quotes.{Quotes, nothing, plain, escape, twice, quote, backslash, newline, tab}
use Rattle.akl_text.specs.Spelling.{Spells, name, variable, quoted, Denotes, name_itself, variable_itself, between_quotes}
use Rattle.akl_text.specs.Kinds.{has_text}
use Rattle.akl_text.specs.Computed.{decode, inside}
use Rattle.akl_text.specs.declared.token.Kind.{Kind}
use Rattle.akl_text.specs.declared.token.Kind.TheVariants.{Name, Variable, Quoted}
use Rattle.akl_text.proofs.Names.{name_parts}
use Rattle.akl_text.proofs.FrontSpelled.{lower_word, upper_word}
use Rattle.akl_text.proofs.QuotedBytes.{quotes_scalar}

-- ---- words
word_low : (b : ℕ) → is_word b ≡ true → b < 128
word_low b e = grind (arith, nat_tests)

pub ascii_cons : (b : ℕ) (w : List ℕ) → b < 128 → IsAscii w → IsAscii (b ∷ w)
ascii_cons b w h f zero = h
ascii_cons b w h f (suc i) = f i

word_ascii : (w : List ℕ) → list_all is_word w ≡ true → IsAscii w
word_ascii [] e = λ i. omega arith
word_ascii (b ∷ w) e = let h = and_parts (is_word b) (list_all is_word w) e in ascii_cons b w (word_low b h.0) (word_ascii w h.1)

-- a word's text is its spelling
pub record IsOwnText (k : Kind) (w : List ℕ) : Type 0 where
  pub utf8 : IsUtf8 w
  pub stands : Denotes k w w

name_own : {w : List ℕ} → Spells Name w → IsOwnText Name w
name_own (name {w = w} e) =
    let p = name_parts w e in
    subst (IsOwnText Name) (sym p.is) (record { utf8 = IsUtf8-from_ascii (p.first ∷ p.more) (word_ascii (p.first ∷ p.more) (rw (lower_word p.first p.lower) p.words)); stands = name_itself })

variable_own : {w : List ℕ} → Spells Variable w → IsOwnText Variable w
variable_own (variable {b = b} {w = w} e f) = record { utf8 = IsUtf8-from_ascii (b ∷ w) (word_ascii (b ∷ w) (rw (upper_word b e) f)); stands = variable_itself }

pub own_text : (k : Kind) (w : List ℕ) → (k ≡ Quoted → ⊥) → has_text k ≡ true → Spells k w → IsOwnText k w
own_text Name w h t s = name_own s
own_text Variable w h t s = variable_own s
own_text Quoted w h t s = absurd (h refl)
own_text _ w h t s = absurd cc

-- ---- quoted text
decode_quotes : {cs text : List ℕ} → Quotes cs text → decode false cs ≡ text
decode_quotes nothing = refl
decode_quotes (plain {c = c} {text = text} p q) = rw (ne_eqb c 39 p.not_quote, ne_eqb c 92 p.not_backslash) (ap (λ (z : List ℕ). c ∷ z) (decode_quotes q))
decode_quotes (escape twice q) = ap (λ (z : List ℕ). 39 ∷ z) (decode_quotes q)
decode_quotes (escape quote q) = ap (λ (z : List ℕ). 39 ∷ z) (decode_quotes q)
decode_quotes (escape backslash q) = ap (λ (z : List ℕ). 92 ∷ z) (decode_quotes q)
decode_quotes (escape newline q) = ap (λ (z : List ℕ). 10 ∷ z) (decode_quotes q)
decode_quotes (escape tab q) = ap (λ (z : List ℕ). 9 ∷ z) (decode_quotes q)

-- the text that is computed of a quoted token
abbrev pub decoded : List ℕ → List ℕ
decoded w = encode_utf8_all (decode false (chars (inside w)))

pub record IsQuotedText (k : Kind) (w : List ℕ) : Type 0 where
  pub long : 2 ≤ length w
  pub utf8 : IsUtf8 (inside w)
  pub stands : Denotes k w (decoded w)

module _ {cs text : List ℕ} (q : Quotes cs text) where
  inside_is : inside (39 ∷ encode_utf8_all cs ++ 39 ∷ []) ≡ encode_utf8_all cs
  inside_is = take_at (encode_utf8_all cs) (39 ∷ []) _ (omega (arith, length-append (encode_utf8_all cs) (39 ∷ [])))

  decoded_is : decoded (39 ∷ encode_utf8_all cs ++ 39 ∷ []) ≡ encode_utf8_all text
  decoded_is = ap (λ (z : List ℕ). encode_utf8_all (decode false (chars z))) inside_is ∙ ap (λ (z : List ℕ). encode_utf8_all (decode false z)) (chars-encodes cs (quotes_scalar q)) ∙ ap encode_utf8_all (decode_quotes q)

quoted_text : {w : List ℕ} → Spells Quoted w → IsQuotedText Quoted w
quoted_text (quoted {cs = cs} {text = text} q) = record {
  long = omega (arith, length-append (encode_utf8_all cs) (39 ∷ []));
  utf8 = subst IsUtf8 (sym (inside_is q)) (cs, (quotes_scalar q, refl));
  stands = subst (Denotes Quoted (39 ∷ encode_utf8_all cs ++ 39 ∷ [])) (sym (decoded_is q)) (between_quotes q);
}

quoted_only : {w text : List ℕ} → Denotes Quoted w text → decoded w ≡ text
quoted_only (between_quotes q) = decoded_is q

pub text_quoted : (k : Kind) (w : List ℕ) → k ≡ Quoted → Spells k w → IsQuotedText k w
text_quoted k w e s = subst (λ (z : Kind). IsQuotedText z w) (sym e) (quoted_text (subst (λ (z : Kind). Spells z w) e s))

pub one_text : {k : Kind} {w a b : List ℕ} → Denotes k w a → Denotes k w b → a ≡ b
one_text name_itself name_itself = refl
one_text variable_itself variable_itself = refl
one_text (between_quotes q) s = sym (decoded_is q) ∙ quoted_only s
