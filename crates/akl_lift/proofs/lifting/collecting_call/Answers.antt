use Rattle.std.proofs.Common.{map, ap, ◌∙◌}
use Rattle.term_syntax.specs.View.{tree}
use Rattle.akl_syntax.specs.Goals.{lifted_collect}
use Rattle.akl_lift.specs.Places.{place}
use Rattle.akl_lift.proofs.Notes.{goal_lifted_collect}
use Rattle.akl_lift.proofs.lifting.collecting_call.Goals as goal

pub returns : goal.returns
returns c =
    goal_lifted_collect c.args.number c.in_ok-arguments.arguments c.in_ok-result.result ∙ ap (λ ns. lifted_collect c.args.number ns (tree c.in_ok-result.result)) c.in_ok-arguments.ensures
    ∙ ap (lifted_collect c.args.number (map (place c.args.order.now) c.args.arguments.now)) c.in_ok-result.ensures
