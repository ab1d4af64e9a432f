use Rattle.plan_laws.proofs.IdlePlaces.{awake, quiet, settle_out}
use Rattle.plan_laws.proofs.of_sleepers.no_ready_sleeps.Goals as goal

pub returns : goal.returns
returns c = record { awake = awake; quiet = quiet; further_out = settle_out }
