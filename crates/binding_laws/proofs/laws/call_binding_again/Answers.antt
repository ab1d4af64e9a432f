use Rattle.binding_laws.proofs.CallBindsAgain.{call_binds_again}
use Rattle.binding_laws.proofs.laws.call_binding_again.Goals as goal

pub returns : goal.returns
returns c = call_binds_again
