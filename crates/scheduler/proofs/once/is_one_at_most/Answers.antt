use Rattle.std.proofs.Common.{arith}
use Rattle.std.proofs.lemmas.Bool.Decides.{nat_tests}
use Rattle.scheduler.proofs.SeenOnce.{few_once}
use Rattle.scheduler.proofs.once.is_one_at_most.Goals as goal

pub returns : goal.returns
returns c = λ e. (few_once c.args.places.now (grind (arith, nat_tests))).is_once
