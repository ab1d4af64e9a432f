use Rattle.std.proofs.Common.{◌≡◌, ◌∷◌, ◌++◌, [], List, sym, subst, ◌∙◌}
use Rattle.std.proofs.lemmas.Result.{err_from_is_err_and}
use Rattle.std.specs.List.{All}
use Rattle.akl_text.specs.declared.token.Token.{Token}
use Rattle.akl_text.specs.Spelling.{IsTokenOf}
use Rattle.akl_syntax.specs.Answers.{clause_view, ending_view}
use Rattle.akl_syntax.specs.Clauses.{IsClause}
use Rattle.akl_syntax.specs.Faults.{ReadsTokens}
use Rattle.akl_syntax.specs.Verdicts.{Tests, ReadsClause}
use Rattle.akl_syntax.specs.Verdicts as verdicts
use Rattle.akl_syntax.proofs.OneVerdict.{passed_on}
use Rattle.akl_syntax.proofs.ReadTurns.{all_front, all_last, few_before, last_after, token_fault}
use Rattle.akl_syntax.proofs.program.read_clause.Goals as goal

pub returns-in_err-tokens-clause-reads : goal.returns-in_err-tokens-clause-reads
returns-in_err-tokens-clause-reads c =
    let p = err_from_is_err_and c.from_residual.result c.from_residual.ensures.1 in
    rw (p.1, p.2) (token_fault c.args.bytes.now c.args.start _ c.in_err-tokens.ensures.err)

pub returns-in_default-clause-reads : goal.returns-in_default-clause-reads
returns-in_default-clause-reads c = verdicts.no_end c.in_ok-tokens.ensures.read (rw c.as_slice.ensures.value at c.in_default.ensures.none)

pub clause_of-requires-clause-of_bytes : goal.clause_of-requires-clause-of_bytes
clause_of-requires-clause-of_bytes c =
    let e : c.in_ok-tokens.tokens.items ≡ c.in-Some.before.now ++ c.in-Some.last ∷ [] = sym c.as_slice.ensures.value ∙ c.in-Some.ensures.parts in
    let h : All (IsTokenOf c.args.bytes.now) (c.in-Some.before.now ++ c.in-Some.last ∷ []) = subst (λ (z : List Token). All (IsTokenOf c.args.bytes.now) z) e c.in_ok-tokens.ensures.spelled in
    all_front (IsTokenOf c.args.bytes.now) c.in-Some.before.now (c.in-Some.last ∷ []) h

pub clause_of-requires-clause-few : goal.clause_of-requires-clause-few
clause_of-requires-clause-few c =
    few_before c.args.bytes.now c.args.start c.in_ok-tokens.tokens.items c.in-Some.before.now c.in-Some.last c.in_ok-tokens.ensures.read (sym c.as_slice.ensures.value ∙ c.in-Some.ensures.parts) c.requires.short

pub returns-in_err-found-clause-reads : goal.returns-in_err-found-clause-reads
returns-in_err-found-clause-reads c =
    let p = err_from_is_err_and c.from_residual-in_err-found.result c.from_residual-in_err-found.ensures.1 in
    let e : c.in_ok-tokens.tokens.items ≡ c.in-Some.before.now ++ c.in-Some.last ∷ [] = sym c.as_slice.ensures.value ∙ c.in-Some.ensures.parts in
    let r : ReadsTokens c.args.bytes.now c.args.start (c.in-Some.before.now ++ c.in-Some.last ∷ []) = subst (λ (z : List Token). ReadsTokens c.args.bytes.now c.args.start z) e c.in_ok-tokens.ensures.read in
    rw (p.1, p.2)
    (passed_on clause_view ending_view (Tests c.args.bytes.now c.args.start (IsClause c.args.start) c.in-Some.before.now) (ReadsClause c.args.bytes.now c.args.start) _
    (λ x t. verdicts.ended c.in-Some.last r c.in-Some.ensures.end t) c.in_err-found.ensures)

pub returns-clause-reads : goal.returns-clause-reads
returns-clause-reads c =
    let e : c.in_ok-tokens.tokens.items ≡ c.in-Some.before.now ++ c.in-Some.last ∷ [] = sym c.as_slice.ensures.value ∙ c.in-Some.ensures.parts in
    let r : ReadsTokens c.args.bytes.now c.args.start (c.in-Some.before.now ++ c.in-Some.last ∷ []) = subst (λ (z : List Token). ReadsTokens c.args.bytes.now c.args.start z) e c.in_ok-tokens.ensures.read in
    verdicts.ended c.in-Some.last r c.in-Some.ensures.end c.in_ok-found.ensures

pub returns-clause-onward : goal.returns-clause-onward
returns-clause-onward c =
    last_after c.args.bytes.now c.args.start c.in_ok-tokens.tokens.items c.in-Some.before.now c.in-Some.last c.in_ok-tokens.ensures.read (sym c.as_slice.ensures.value ∙ c.in-Some.ensures.parts)

pub returns-clause-end : goal.returns-clause-end
returns-clause-end c =
    let e : c.in_ok-tokens.tokens.items ≡ c.in-Some.before.now ++ c.in-Some.last ∷ [] = sym c.as_slice.ensures.value ∙ c.in-Some.ensures.parts in
    let h : All (IsTokenOf c.args.bytes.now) (c.in-Some.before.now ++ c.in-Some.last ∷ []) = subst (λ (z : List Token). All (IsTokenOf c.args.bytes.now) z) e c.in_ok-tokens.ensures.spelled in
    (all_last (IsTokenOf c.args.bytes.now) c.in-Some.before.now c.in-Some.last h).within
