use Rattle.std.proofs.lemmas.Result.{err_from_is_err_and}
use Rattle.akl_syntax.specs.Answers.{clause_view}
use Rattle.akl_syntax.specs.Clauses.{IsClause}
use Rattle.akl_syntax.specs.Verdicts.{derived}
use Rattle.akl_syntax.proofs.OneVerdict.{limit_fault, whole_fault}
use Rattle.akl_syntax.proofs.program.clause_of.Goals as goal

pub returns-in_err-lexed : goal.returns-in_err-lexed
returns-in_err-lexed c =
    let p = err_from_is_err_and c.from_residual.result c.from_residual.ensures.1 in
    rw (p.1, p.2) (limit_fault clause_view c.args.bytes.now c.args.start (IsClause c.args.start) c.args.tokens.now _ c.in_err-lexed.ensures.err)

pub returns-in-Ok : goal.returns-in-Ok
returns-in-Ok c = derived c.in_ok-lexed.ensures.shallow c.in_ok-lexed.ensures.in_range c.in_ok-lexed.ensures.lexemes c.in-Ok.ensures

pub returns-in-Err : goal.returns-in-Err
returns-in-Err c =
    whole_fault clause_view c.args.bytes.now c.args.start (IsClause c.args.start) c.args.tokens.now c.in_ok-lexed.lexed.lexemes.items c.in_ok-lexed.lexed.names.items c.in-Err.fault c.error_of.result
    c.in_ok-lexed.ensures.shallow c.in_ok-lexed.ensures.in_range c.in_ok-lexed.ensures.lexemes c.in-Err.ensures c.error_of.ensures
