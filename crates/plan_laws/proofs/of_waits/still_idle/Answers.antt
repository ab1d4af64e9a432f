use Rattle.plan_laws.proofs.Still.{still_enough, still_oldest, still_scoped}
use Rattle.plan_laws.proofs.StillConcerns.{still_concern}
use Rattle.plan_laws.proofs.of_waits.still_idle.Goals as goal

pub returns : goal.returns
returns c = record { enough = still_enough; oldest = still_oldest; concern = still_concern; scoped = still_scoped }
