use Rattle.std.proofs.Common.{rules, ◌≡◌, ◌<◌, ◌≤◌, ◌^◌, length, ℕ, List, true, ap, arith, sym, ◌∙◌, Result, Some}
use Rattle.std.proofs.lemmas.Bool.Decides.{nat_tests}
use Rattle.std.specs.Char.{is_ascii_digit}
use Rattle.std.specs.List.{list_all}
use Rattle.std.specs.Result.{result_ok}
use Rattle.std.specs.Str.Parse.{digits_value, ParsesUnsigned}
use Rattle.std.proofs.lemmas.Str.Parse.{IsNumeralModel, numerals_by_value, parse_gives, digits_value_short}
use Rattle.akl_args.specs.Numbers.{is_numeral, value_of}
use Rattle.akl_args.proofs.number.value_of.Goals as goal

abbrev digits_alone : List ℕ → Type 0
digits_alone ds = list_all is_ascii_digit ds ≡ true

model : IsNumeralModel digits_alone (digits_value 10)
model = numerals_by_value _ (search rules)

filled : (text : List ℕ) → is_numeral text ≡ true → 0 < length text
filled text h = grind (arith, nat_tests)

short : (text : List ℕ) → is_numeral text ≡ true → length text ≤ 10
short text h = grind (arith, nat_tests)

has_digits_alone : (text : List ℕ) → is_numeral text ≡ true → digits_alone text
has_digits_alone text h = grind (arith, nat_tests)

small : (text : List ℕ) → is_numeral text ≡ true → digits_value 10 text < 2 ^ 64
small text h =
    let below : digits_value 10 text < 10 ^ 10 = digits_value_short model text 10 (has_digits_alone text h) (short text h) in
    omega arith

written : (text : List ℕ) → is_numeral text ≡ true → value_of text ≡ Some (digits_value 10 text)
written text h = rw h

parsed : {E : Type 0} (text : List ℕ) (r : Result ℕ E) → ParsesUnsigned 64 10 text r → is_numeral text ≡ true → result_ok r ≡ value_of text
parsed text r h numeral =
    ap result_ok (parse_gives model 64 text r h (has_digits_alone text numeral) (filled text numeral) (small text numeral))
    ∙ sym (written text numeral)

pub returns : goal.returns
returns c =
    let numeral : is_numeral c.args.text.now ≡ true = search rules in
    c.ok.ensures.value ∙ parsed c.args.text.now c.parse.result c.parse.ensures.value.0 numeral
