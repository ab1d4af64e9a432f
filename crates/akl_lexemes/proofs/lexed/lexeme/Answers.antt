use Rattle.std.proofs.Common.{◌≡◌, sym, ◌∙◌, rules, arith}
use Rattle.std.proofs.lemmas.Int.{to_z-of_z}
use mir.Val.{SFits}
use mir.Syntax.{w128}
use Rattle.akl_text.specs.Spelling.{spelling, integer_value}
use Rattle.akl_lexemes.specs.Lexemes.{symbol, integer, mark}
use Rattle.akl_lexemes.proofs.LexemeTurns.{mark_kind, other_no_integer, not_integer, variable_text, variable_lexeme, one_more}
use Rattle.akl_lexemes.proofs.lexed.lexeme.Goals as goal

pub returns-then-is_symbol-clause-lexeme : goal.returns-then-is_symbol-clause-lexeme
returns-then-is_symbol-clause-lexeme c = symbol (sym c.is_symbol.ensures ∙ c.if-is_symbol.true) c.in_ok-text_of.ensures

pub returns-in_ok-number-in-Variable-clause-lexeme : goal.returns-in_ok-number-in-Variable-clause-lexeme
returns-in_ok-number-in-Variable-clause-lexeme c =
    variable_lexeme _ _ _ _ _ _ c.in-Variable.is (variable_text c.in-Variable.is c.in_ok-name-in-Variable.ensures) c.in_ok-number-in-Variable.ensures

pub returns-in_ok-number-in-Variable-clause-more : goal.returns-in_ok-number-in-Variable-clause-more
returns-in_ok-number-in-Variable-clause-more c = one_more c.in_ok-number-in-Variable.ensures

pub returns-in-Some-clause-lexeme : goal.returns-in-Some-clause-lexeme
returns-in-Some-clause-lexeme c =
    let f : SFits w128 c.in-Some.value = search rules in
    let e : c.in-Some.value ≡ integer_value (spelling c.args.bytes.now c.args.token.now) = c.in-Some.ensures.value in
    rw (to_z-of_z w128 c.in-Some.value f, e) (integer c.in-Integer.is)

pub returns-in_default : goal.returns-in_default
returns-in_default c = record {
  lexeme = mark (mark_kind c.args.token.now.kind (sym c.is_symbol.ensures ∙ c.if-is_symbol.false) c.in_default.not-Variable c.in_default.not-Integer);
  in_range = not_integer c.args.bytes.now c.args.token.now (other_no_integer c.args.token.now.kind c.in_default.not-Integer);
  more = omega arith;
  err = tt;
}
