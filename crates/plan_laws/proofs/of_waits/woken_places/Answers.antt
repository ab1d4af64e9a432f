use Rattle.plan_laws.proofs.Sites.{adds_at_site}
use Rattle.plan_laws.proofs.Woken.{woken}
use Rattle.plan_laws.proofs.of_waits.woken_places.Goals as goal

pub returns : goal.returns
returns c = record { at_site = adds_at_site; woken = woken }
