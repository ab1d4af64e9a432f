use Rattle.std.proofs.Common.{◌≡◌, ◌∷◌, sym, ap, ◌∙◌}
use Rattle.std.proofs.lemmas.Result.{err_from_is_err_and}
use Rattle.akl_lexemes.specs.declared.lexeme.Lexeme.{Lexeme}
use Rattle.akl_lexemes.specs.declared.lexeme.Lexeme.TheVariants.{Symbol}
use Rattle.akl_syntax.specs.Clauses.{clause}
use Rattle.akl_syntax.proofs.ClauseTurns.{refuses_so, no_clause_part}
use Rattle.akl_syntax.proofs.clause.clause.Goals as goal

pub returns-in_err-clause_part : goal.returns-in_err-clause_part
returns-in_err-clause_part c =
    let p = err_from_is_err_and c.from_residual-in_err-clause_part.result c.from_residual-in_err-clause_part.ensures.1 in
    let e : c.args.lexed.lexemes.items ≡ Symbol c.in-Symbol.symbol ∷ c.in-Some.rest.now = sym c.as_slice.ensures.value ∙ c.in-Some.ensures.some ∙ ap (λ (z : Lexeme). z ∷ c.in-Some.rest.now) c.in-Symbol.is in
    rw (e, p.1, p.2) (refuses_so _ (no_clause_part _ _ _ _ _ _ c.in_ok-arguments.ensures.0) c.in_err-clause_part.ensures)

pub returns : goal.returns
returns c =
    let e : c.args.lexed.lexemes.items ≡ Symbol c.in-Symbol.symbol ∷ c.in-Some.rest.now = sym c.as_slice.ensures.value ∙ c.in-Some.ensures.some ∙ ap (λ (z : Lexeme). z ∷ c.in-Some.rest.now) c.in-Symbol.is in
    rw (e, c.in_ok-duplicate.ensures, c.into_source-part.ensures) (clause c.in_ok-arguments.ensures.0 c.in_ok-clause_part.ensures)
