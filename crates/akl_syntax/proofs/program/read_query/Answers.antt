use Rattle.std.proofs.Common.{◌≡◌, ◌∷◌, ◌++◌, [], List, length, sym, subst, ◌∙◌, arith}
use Rattle.std.proofs.lemmas.Result.{err_from_is_err_and}
use Rattle.std.specs.List.{All}
use Rattle.akl_text.specs.declared.token.Token.{Token}
use Rattle.akl_text.specs.Spelling.{IsTokenOf}
use Rattle.akl_syntax.specs.Answers.{query_view, Answers}
use Rattle.akl_syntax.specs.Clauses.{IsQuery}
use Rattle.akl_syntax.specs.Faults.{ReadsTokens}
use Rattle.akl_syntax.specs.Verdicts.{Tests, NotEnded, ReadsQuery}
use Rattle.akl_text.specs.Layout.{SkipsFrom}
use Rattle.akl_syntax.specs.Verdicts as verdicts
use Rattle.akl_syntax.proofs.OneVerdict.{answers_as}
use Rattle.akl_syntax.proofs.ReadTurns.{all_front, all_last, few_tokens, few_before, query_token_fault, query_limit_fault}
use Rattle.akl_syntax.proofs.SizeLaws.{answered_size}
use Rattle.akl_syntax.proofs.VariableLaws.{answered_numbered}
use Rattle.akl_syntax.proofs.program.read_query.Goals as goal

pub returns-in_err-tokens-clause-reads : goal.returns-in_err-tokens-clause-reads
returns-in_err-tokens-clause-reads c =
    let p = err_from_is_err_and c.from_residual.result c.from_residual.ensures.1 in
    rw (p.1, p.2) (query_token_fault c.args.bytes.now c.layout_end-start.result _ c.layout_end-start.ensures.skips c.in_err-tokens.ensures.err)

pub query_of-requires-clause-few : goal.query_of-requires-clause-few
query_of-requires-clause-few c =
    rw c.as_slice-in_default.ensures.value (few_tokens c.args.bytes.now c.layout_end-start.result c.in_ok-tokens.tokens.items c.in_ok-tokens.ensures.read (omega (arith, c.requires)))

pub returns-in_default-clause-reads : goal.returns-in_default-clause-reads
returns-in_default-clause-reads c =
    let n : NotEnded c.in_ok-tokens.tokens.items = rw c.as_slice.ensures.value at c.in_default.ensures.none in
    let h : Answers query_view (Tests c.args.bytes.now c.layout_end-start.result IsQuery c.in_ok-tokens.tokens.items) c.query_of.result = rw c.as_slice-in_default.ensures.value at c.query_of.ensures in
    answers_as query_view (Tests c.args.bytes.now c.layout_end-start.result IsQuery c.in_ok-tokens.tokens.items) (ReadsQuery c.args.bytes.now) c.query_of.result
    (λ v t. verdicts.open_ended c.layout_end-start.ensures.skips c.in_ok-tokens.ensures.read n t) h

pub layout_end-requires : goal.layout_end-requires
layout_end-requires c =
    let e : c.in_ok-tokens.tokens.items ≡ c.in-Some.before.now ++ c.in-Some.last ∷ [] = sym c.as_slice.ensures.value ∙ c.in-Some.ensures.parts in
    let h : All (IsTokenOf c.args.bytes.now) (c.in-Some.before.now ++ c.in-Some.last ∷ []) = subst (λ (z : List Token). All (IsTokenOf c.args.bytes.now) z) e c.in_ok-tokens.ensures.spelled in
    (all_last (IsTokenOf c.args.bytes.now) c.in-Some.before.now c.in-Some.last h).within

pub within_limits-requires-clause-of_bytes : goal.within_limits-requires-clause-of_bytes
within_limits-requires-clause-of_bytes c =
    let e : c.in_ok-tokens.tokens.items ≡ c.in-Some.before.now ++ c.in-Some.last ∷ [] = sym c.as_slice.ensures.value ∙ c.in-Some.ensures.parts in
    let h : All (IsTokenOf c.args.bytes.now) (c.in-Some.before.now ++ c.in-Some.last ∷ []) = subst (λ (z : List Token). All (IsTokenOf c.args.bytes.now) z) e c.in_ok-tokens.ensures.spelled in
    all_front (IsTokenOf c.args.bytes.now) c.in-Some.before.now (c.in-Some.last ∷ []) h

pub within_limits-requires-clause-few : goal.within_limits-requires-clause-few
within_limits-requires-clause-few c =
    few_before c.args.bytes.now c.layout_end-start.result c.in_ok-tokens.tokens.items c.in-Some.before.now c.in-Some.last c.in_ok-tokens.ensures.read (sym c.as_slice.ensures.value ∙ c.in-Some.ensures.parts) (omega (arith, c.requires))

pub returns-in_err-within_limits-clause-reads : goal.returns-in_err-within_limits-clause-reads
returns-in_err-within_limits-clause-reads c =
    let p = err_from_is_err_and c.from_residual-in_err-within_limits.result c.from_residual-in_err-within_limits.ensures.1 in
    let e : c.in_ok-tokens.tokens.items ≡ c.in-Some.before.now ++ c.in-Some.last ∷ [] = sym c.as_slice.ensures.value ∙ c.in-Some.ensures.parts in
    let r : ReadsTokens c.args.bytes.now c.layout_end-start.result (c.in-Some.before.now ++ c.in-Some.last ∷ []) = subst (λ (z : List Token). ReadsTokens c.args.bytes.now c.layout_end-start.result z) e c.in_ok-tokens.ensures.read in
    rw (p.1, p.2)
    (query_limit_fault c.args.bytes.now c.layout_end-start.result c.layout_end.result c.in-Some.before.now c.in-Some.last _ c.layout_end-start.ensures.skips r c.in-Some.ensures.end
    c.layout_end.ensures.skips c.if-layout_end-bytes.true c.in_err-within_limits.ensures.err)

pub returns-then-layout_end-bytes-clause-reads : goal.returns-then-layout_end-bytes-clause-reads
returns-then-layout_end-bytes-clause-reads c =
    let e : c.in_ok-tokens.tokens.items ≡ c.in-Some.before.now ++ c.in-Some.last ∷ [] = sym c.as_slice.ensures.value ∙ c.in-Some.ensures.parts in
    let r : ReadsTokens c.args.bytes.now c.layout_end-start.result (c.in-Some.before.now ++ c.in-Some.last ∷ []) = subst (λ (z : List Token). ReadsTokens c.args.bytes.now c.layout_end-start.result z) e c.in_ok-tokens.ensures.read in
    verdicts.goes_on c.in-Some.last c.layout_end-start.ensures.skips r c.in-Some.ensures.end c.layout_end.ensures.skips c.if-layout_end-bytes.true
    (verdicts.not_derived c.in_ok-within_limits.ensures.shallow c.in_ok-within_limits.ensures.in_range c.in_ok-within_limits.ensures.lexemes (λ x h. h))

pub query_of-requires-2-clause-of_bytes : goal.query_of-requires-2-clause-of_bytes
query_of-requires-2-clause-of_bytes c =
    let e : c.in_ok-tokens.tokens.items ≡ c.in-Some.before.now ++ c.in-Some.last ∷ [] = sym c.as_slice.ensures.value ∙ c.in-Some.ensures.parts in
    let h : All (IsTokenOf c.args.bytes.now) (c.in-Some.before.now ++ c.in-Some.last ∷ []) = subst (λ (z : List Token). All (IsTokenOf c.args.bytes.now) z) e c.in_ok-tokens.ensures.spelled in
    all_front (IsTokenOf c.args.bytes.now) c.in-Some.before.now (c.in-Some.last ∷ []) h

pub query_of-requires-2-clause-few : goal.query_of-requires-2-clause-few
query_of-requires-2-clause-few c =
    few_before c.args.bytes.now c.layout_end-start.result c.in_ok-tokens.tokens.items c.in-Some.before.now c.in-Some.last c.in_ok-tokens.ensures.read (sym c.as_slice.ensures.value ∙ c.in-Some.ensures.parts) (omega (arith, c.requires))

pub returns-clause-reads : goal.returns-clause-reads
returns-clause-reads c =
    let e : c.in_ok-tokens.tokens.items ≡ c.in-Some.before.now ++ c.in-Some.last ∷ [] = sym c.as_slice.ensures.value ∙ c.in-Some.ensures.parts in
    let r : ReadsTokens c.args.bytes.now c.layout_end-start.result (c.in-Some.before.now ++ c.in-Some.last ∷ []) = subst (λ (z : List Token). ReadsTokens c.args.bytes.now c.layout_end-start.result z) e c.in_ok-tokens.ensures.read in
    let all : c.layout_end.result ≡ length c.args.bytes.now = omega (arith, c.layout_end.ensures.within, c.if-layout_end-bytes.false) in
    let s : SkipsFrom c.args.bytes.now c.in-Some.last.end (length c.args.bytes.now) = rw (← all) c.layout_end.ensures.skips in
    answers_as query_view (Tests c.args.bytes.now c.layout_end-start.result IsQuery c.in-Some.before.now) (ReadsQuery c.args.bytes.now) c.query_of-2.result
    (λ v t. verdicts.ended c.in-Some.last c.layout_end-start.ensures.skips r c.in-Some.ensures.end s t) c.query_of-2.ensures

pub returns-in_default-clause-size : goal.returns-in_default-clause-size
returns-in_default-clause-size c = answered_size c.args.bytes.now c.query_of.result (returns-in_default-clause-reads c)

pub returns-clause-size : goal.returns-clause-size
returns-clause-size c = answered_size c.args.bytes.now c.query_of-2.result (returns-clause-reads c)

pub returns-in_default-clause-variables : goal.returns-in_default-clause-variables
returns-in_default-clause-variables c = answered_numbered c.args.bytes.now c.query_of.result (returns-in_default-clause-reads c)

pub returns-clause-variables : goal.returns-clause-variables
returns-clause-variables c = answered_numbered c.args.bytes.now c.query_of-2.result (returns-clause-reads c)
