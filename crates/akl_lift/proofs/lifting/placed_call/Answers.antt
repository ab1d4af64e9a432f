use Rattle.std.proofs.Common.{map, ap, ◌∙◌}
use Rattle.term_syntax.specs.Tree.{trees}
use Rattle.term_syntax.specs.View.{tree}
use Rattle.akl_syntax.specs.Goals.{call}
use Rattle.akl_syntax.proofs.TestGoals.{goal_call}
use Rattle.akl_lift.proofs.lifting.placed_call.Goals as goal

pub returns : goal.returns
returns c = goal_call c.in_ok-symbol.symbol c.in_ok-arguments.arguments ∙ ap (λ s. call s (trees (map tree c.in_ok-arguments.arguments.items))) c.in_ok-symbol.ensures ∙ ap (call c.args.symbol.now) c.in_ok-arguments.ensures
