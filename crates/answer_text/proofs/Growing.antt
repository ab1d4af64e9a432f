-- Every turn of the printer prints something.
use Rattle.std.specs.Fmt.{signed_decimal, decimal, digits, digits_onto, digit_glyph}
use Rattle.std.specs.Prelude.{◌/◌, ◌%◌, ◌==◌, ℤ, pos, negsuc}
use Rattle.std.proofs.Common.{ℕ, zero, suc, ◌<◌, List, [], ◌∷◌, ◌++◌, length, Bool, true, false, cond, length-append, arith}
use Rattle.std.specs.Prelude.{bytes_eq, codes, flat_map}
use Rattle.akl_terms.specs.Words.{is_plain_name}
use Rattle.answer_text.specs.SymbolText.{symbol_text, constant_text, escaped}

quoted_some : (bs : List ℕ) → 0 < length (39 ∷ flat_map escaped bs ++ 39 ∷ [])
quoted_some bs = omega (arith, length-append {A = ℕ})

pub symbol_text-some : (bs : List ℕ) → 0 < length (symbol_text bs)
symbol_text-some [] = quoted_some []
symbol_text-some (b ∷ bs) = on (is_plain_name (b ∷ bs))
  where
    on : (c : Bool) → 0 < length (cond c (b ∷ bs) (39 ∷ flat_map escaped (b ∷ bs) ++ 39 ∷ []))
    on true = omega arith
    on false = quoted_some (b ∷ bs)

pub constant_text-some : (bs : List ℕ) → 0 < length (constant_text bs)
constant_text-some [] = symbol_text-some []
constant_text-some (b ∷ bs) = on (bytes_eq (b ∷ bs) (codes "[]"))
  where
    on : (c : Bool) → 0 < length (cond c (b ∷ bs) (symbol_text (b ∷ bs)))
    on true = omega arith
    on false = symbol_text-some (b ∷ bs)

digits_onto-some : (k base : ℕ) (upper : Bool) (n d : ℕ) (acc : List ℕ) → 0 < length (digits_onto k base upper n (d ∷ acc))
digits_onto-some zero base upper n d acc = omega arith
digits_onto-some (suc k) base upper n d acc = on (n / base == 0) (digits_onto-some k base upper (n / base) (digit_glyph upper (n % base)) (d ∷ acc))
  where
    on : (c : Bool) → 0 < length (digits_onto k base upper (n / base) (digit_glyph upper (n % base) ∷ d ∷ acc))
        → 0 < length (cond c (digit_glyph upper (n % base) ∷ d ∷ acc) (digits_onto k base upper (n / base) (digit_glyph upper (n % base) ∷ d ∷ acc)))
    on true h = omega arith
    on false h = h

decimal-some : (n : ℕ) → 0 < length (decimal n)
unfolding digits
decimal-some n = on (n / 10 == 0)
  where
    on : (c : Bool) → 0 < length (cond c (digit_glyph false (n % 10) ∷ []) (digits_onto 63 10 false (n / 10) (digit_glyph false (n % 10) ∷ [])))
    on true = omega arith
    on false = digits_onto-some 63 10 false (n / 10) (digit_glyph false (n % 10)) []

pub signed_decimal-some : (z : ℤ) → 0 < length (signed_decimal z)
signed_decimal-some (pos n) = decimal-some n
signed_decimal-some (negsuc n) = omega arith
