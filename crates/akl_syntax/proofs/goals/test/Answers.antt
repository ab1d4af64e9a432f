use Rattle.std.proofs.Common.{sym, ◌∙◌}
use Rattle.std.proofs.lemmas.Result.{err_from_is_err_and}
use Rattle.term_syntax.specs.declared.level.Level.TheVariants.{Sum}
use Rattle.term_syntax.specs.Ends.{ends_chain}
use Rattle.akl_syntax.specs.Ends.{ends_goal}
use Rattle.akl_syntax.specs.Goals.{test}
use Rattle.akl_lexemes.proofs.Refusals.{refused}
use Rattle.akl_syntax.proofs.TestGoals.{goal_call, no_left, no_relation, no_right, joined_behind, goal_edge, end_is_none, other_is_none}
use Rattle.akl_syntax.proofs.goals.test.Goals as goal

pub returns-in_err-left : goal.returns-in_err-left
returns-in_err-left c =
    let p = err_from_is_err_and c.from_residual.result c.from_residual.ensures.1 in
    rw (p.1, p.2) (refused (ends_chain Sum) ends_goal _ (no_left _ c.requires.test) c.in_err-left.ensures)

pub returns-in_default : goal.returns-in_default
returns-in_default c = no_relation _ c.requires.test _ _ c.in_ok-left.ensures.0 c.in_ok-left.ensures.1 (end_is_none _ c.in_default.ensures.none)

pub returns-in_default-relation : goal.returns-in_default-relation
returns-in_default-relation c = no_relation _ c.requires.test _ _ c.in_ok-left.ensures.0 c.in_ok-left.ensures.1 (other_is_none _ _ _ c.in-Some.ensures.some (sym c.in_default-relation.ensures))

pub returns-in_err-right : goal.returns-in_err-right
returns-in_err-right c =
    let p = err_from_is_err_and c.from_residual-in_err-right.result c.from_residual-in_err-right.ensures.1 in
    rw (p.1, p.2) (refused (ends_chain Sum) ends_goal _ (no_right _ c.requires.test _ _ _ (rw c.in-Some.ensures.some at c.in_ok-left.ensures.0) (rw c.in-Some.ensures.some at c.in_ok-left.ensures.1)) c.in_err-right.ensures)

pub returns-then-joined : goal.returns-then-joined
returns-then-joined c =
    joined_behind _ c.requires.test _ _ _ _ _ (rw c.in-Some.ensures.some at c.in_ok-left.ensures.0) (rw c.in-Some.ensures.some at c.in_ok-left.ensures.1) c.in_ok-right.ensures.0 c.in_ok-right.ensures.1 (sym c.joined.ensures ∙ c.if-joined.true)

pub returns : goal.returns
returns c =
    rw (c.in_ok-found.ensures, goal_call c.in_ok-symbol.symbol c.in_ok-arguments.arguments, c.in_ok-symbol.ensures, c.in_ok-arguments.ensures)
    (test c.requires.plain (rw c.in-Some.ensures.some at c.in_ok-left.ensures.0) (sym c.in-Some-relation.ensures) c.in_ok-right.ensures.0, goal_edge _ (sym c.joined.ensures ∙ c.if-joined.false))
