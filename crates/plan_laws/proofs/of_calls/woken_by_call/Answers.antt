use Rattle.plan_laws.proofs.Drops.{drops_gone}
use Rattle.plan_laws.proofs.NetKept.{net_kept}
use Rattle.plan_laws.proofs.NetOpens.{net_opens_law}
use Rattle.plan_laws.proofs.NetRuns.{net_runs}
use Rattle.plan_laws.proofs.of_calls.woken_by_call.Goals as goal

pub returns : goal.returns
returns c = record { opens = net_opens_law; runs = net_runs; kept = net_kept; drops = drops_gone }
