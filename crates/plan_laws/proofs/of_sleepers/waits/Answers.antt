use Rattle.plan_laws.proofs.Aliases.{all_needed}
use Rattle.plan_laws.proofs.NeedsConcern.{needs_concern, unopened}
use Rattle.plan_laws.proofs.AwaitedAtoms.{awaited_one}
use Rattle.plan_laws.proofs.of_sleepers.waits.Goals as goal

pub returns : goal.returns
returns c = record { concern = needs_concern; enough = all_needed; unopened = unopened; one = awaited_one }
