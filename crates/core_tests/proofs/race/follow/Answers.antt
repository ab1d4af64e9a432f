use Rattle.std.proofs.Common.{sym, ◌∙◌}
use Rattle.place_steps.proofs.MadeAgain.{same_program}
use Rattle.core_tests.proofs.race.follow.Goals as goal

pub loop-label-preserved : goal.loop-label-preserved
loop-label-preserved c = c.loop-label.invariant ∙ sym (same_program _ _ _ c.make_again.result c.make_again.ensures.made c.make_again.ensures.unchanged)
