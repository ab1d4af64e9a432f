use Rattle.std.proofs.Common.{subst}
use Rattle.place_steps.specs.Seen.{HasCandidate}
use Rattle.place_steps.proofs.Unsplit.{no_split}
use Rattle.place_steps.proofs.next.split_of.Goals as goal

pub returns-in-None : goal.returns-in-None
returns-in-None c = no_split c.args.view.now (subst (HasCandidate c.args.view.now) c.in-None.is c.requires.inside.candidate)
