use Rattle.std.proofs.lemmas.Result.{err_from_is_err_and}
use Rattle.akl_lexemes.specs.Parsed.{anywhere}
use Rattle.akl_syntax.specs.Ends.{ends_goal}
use Rattle.akl_syntax.specs.Goals.{atom_goal}
use Rattle.akl_lexemes.proofs.Refusals.{refused}
use Rattle.akl_syntax.proofs.TestGoals.{goal_call}
use Rattle.akl_syntax.proofs.PartTurns.{no_call, call_edge}
use Rattle.akl_syntax.proofs.goals.called.Goals as goal

pub returns-in_err-arguments : goal.returns-in_err-arguments
returns-in_err-arguments c =
    let p = err_from_is_err_and c.from_residual-in_err-arguments.result c.from_residual-in_err-arguments.ensures.1 in
    rw (p.1, p.2) (refused anywhere ends_goal _ (no_call _ _ c.requires.call c.requires.plain) c.in_err-arguments.ensures)

pub returns : goal.returns
returns c =
    rw (c.in_ok-found.ensures, goal_call c.in_ok-symbol.symbol c.in_ok-arguments.arguments, c.in_ok-symbol.ensures)
    (atom_goal c.requires.plain c.in_ok-arguments.ensures.0, call_edge c.args.symbol.now _ _ _ c.requires.call c.in_ok-arguments.ensures.0)
