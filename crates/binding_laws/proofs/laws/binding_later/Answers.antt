use Rattle.binding_laws.proofs.BindsLater.{binds_later}
use Rattle.binding_laws.proofs.laws.binding_later.Goals as goal

pub returns : goal.returns
returns c = binds_later
