use Rattle.std.proofs.Common.{refl}
use Rattle.std.proofs.lemmas.Result.{err_from_is_err_and}
use Rattle.term_syntax.specs.declared.level.Level.TheVariants.{Sum}
use Rattle.term_syntax.specs.Ends.{ends_chain}
use Rattle.akl_lexemes.specs.Parsed.{anywhere}
use Rattle.akl_lexemes.proofs.Refusals.{refused, a_fault}
use Rattle.akl_syntax.specs.Parts.{ended_by}
use Rattle.akl_syntax.proofs.CollectTurns.{none_ended, no_mark}
use Rattle.akl_syntax.proofs.goals.ended.Goals as goal

pub returns-in_err-found : goal.returns-in_err-found
returns-in_err-found c =
    let p = err_from_is_err_and c.from_residual.result c.from_residual.ensures.1 in
    rw (p.1, p.2) (refused (ends_chain Sum) anywhere _ (none_ended c.args.kind c.requires _) c.in_err-found.ensures)

pub returns-in_err-rest : goal.returns-in_err-rest
returns-in_err-rest c =
    let p = err_from_is_err_and c.from_residual-in_err-rest.result c.from_residual-in_err-rest.ensures.1 in
    rw (p.1, p.2) (a_fault anywhere _ _ c.in_err-rest.ensures.none (no_mark c.args.kind c.requires _ _ _ c.in_ok-found.ensures.0 c.in_ok-found.ensures.1 c.in_err-rest.ensures.err))

pub returns : goal.returns
returns c = (ended_by (rw c.in_ok-rest.ensures.ok at c.in_ok-found.ensures.0), refl)
