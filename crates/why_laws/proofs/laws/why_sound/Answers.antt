use Rattle.why_laws.proofs.RootWaits.{stays_idle_told}
use Rattle.why_laws.proofs.Labels.{stays_quiet_told}
use Rattle.why_laws.proofs.laws.why_sound.Goals as goal

pub returns : goal.returns
returns c = record { quiet = stays_quiet_told; inside = stays_idle_told }
