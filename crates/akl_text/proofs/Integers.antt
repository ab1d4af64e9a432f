-- The spelling of an integer is a numeral, with or without a minus, so that `parse` gives its value or finds it
-- out of range.
use Rattle.std.proofs.Common.{◌≡◌, ℕ, ◌<◌, Bool, true, false, List, [], ◌∷◌, refl, subst, arith, Result, Err}
use Rattle.std.specs.Prelude.{ℤ, pos, negsuc, ◌^◌}
use mir.Val.{SFits}
use mir.Syntax.{w128}
use Rattle.std.specs.List.{list_all}
use Rattle.std.specs.Char.{digit_value}
use Rattle.std.specs.Str.{IsAscii}
use Rattle.std.specs.Str.Parse.{AllDigits, IsNumeral, ParsesSigned, without_leading_sign}
use Rattle.std.proofs.lemmas.Bool.{and_parts, ne_eqb}
use Rattle.std.proofs.lemmas.Bool.Decides.{nat_tests}
use Rattle.akl_terms.specs.Words.{is_digit}
use Rattle.akl_terms.specs.Arithmetic.{in_range}
use Rattle.akl_text.specs.Spelling.{Spells, natural, negative, integer_value}
use Rattle.akl_text.specs.declared.token.Kind.{Kind}
use Rattle.akl_text.specs.declared.token.Kind.TheVariants.{Integer}
use Rattle.akl_text.proofs.TextFound.{ascii_cons}

digit_small : (b : ℕ) → is_digit b ≡ true → digit_value b < 10
digit_small b e = grind (arith, nat_tests)

digits : (w : List ℕ) → list_all is_digit w ≡ true → AllDigits 10 w
digits [] e = tt
digits (b ∷ w) e = let h = and_parts (is_digit b) (list_all is_digit w) e in (digit_small b h.0, digits w h.1)

no_sign : (b : ℕ) → is_digit b ≡ true → (b ≡ 45 → ⊥) × (b ≡ 43 → ⊥)
no_sign b e = (λ f. absurd (let g = rw f at e in cc), λ f. absurd (let g = rw f at e in cc))

digit_low : (b : ℕ) → is_digit b ≡ true → b < 128
digit_low b e = grind (arith, nat_tests)

pub integer_numeral : {w : List ℕ} → Spells Integer w → IsNumeral 10 (without_leading_sign w)
integer_numeral (natural {b = b} {w = w} e f) = rw (ne_eqb b 45 (no_sign b e).0, ne_eqb b 43 (no_sign b e).1) (omega arith, (digit_small b e, digits w f))
integer_numeral (negative {b = b} {w = w} e f) = (omega arith, (digit_small b e, digits w f))

digits_ascii : (w : List ℕ) → list_all is_digit w ≡ true → IsAscii w
digits_ascii [] e = λ i. omega arith
digits_ascii (b ∷ w) e = let h = and_parts (is_digit b) (list_all is_digit w) e in ascii_cons b w (digit_low b h.0) (digits_ascii w h.1)

pub integer_ascii : {w : List ℕ} → Spells Integer w → IsAscii w
integer_ascii (natural {b = b} {w = w} e f) = ascii_cons b w (digit_low b e) (digits_ascii w f)
integer_ascii (negative {b = b} {w = w} e f) = ascii_cons 45 (b ∷ w) (omega arith) (ascii_cons b w (digit_low b e) (digits_ascii w f))

pub spelled_integer : {k : Kind} {w : List ℕ} → k ≡ Integer → Spells k w → Spells Integer w
spelled_integer {w = w} e s = subst (λ (z : Kind). Spells z w) e s

-- ---- what is out of range is refused
not_true : (x : Bool) → (x ≡ true → ⊥) → x ≡ false
not_true true f = absurd (f refl)
not_true false f = refl

range_fits : (z : ℤ) → in_range z ≡ true → SFits w128 z
range_fits (pos n) e = let h : n < 2 ^ 127 = grind (arith, nat_tests) in record { sfits = h }
range_fits (negsuc n) e = let h : n < 2 ^ 127 = grind (arith, nat_tests) in record { sfits = h }

pub integer_refused : {E : Type 0} (w : List ℕ) (r : Result ℤ E) (e : E) → r ≡ Err e → ParsesSigned w128 10 w r → Spells Integer w → in_range (integer_value w) ≡ false
integer_refused w r e h p s = not_true _ (λ x. (let q = rw h at p in q (integer_numeral s, range_fits (integer_value w) x)))
