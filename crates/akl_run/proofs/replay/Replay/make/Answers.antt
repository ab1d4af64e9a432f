use Rattle.std.proofs.Common.{sym, ◌∙◌}
use Rattle.place_steps.proofs.MadeAgain.{same_program}
use Rattle.akl_run.proofs.replay.Replay.make.Goals as goal

pub invariant_of-self : goal.invariant_of-self
invariant_of-self g c = c.self.invariant ∙ sym (same_program _ _ _ c.make_again.result c.make_again.ensures.made c.make_again.ensures.unchanged)
