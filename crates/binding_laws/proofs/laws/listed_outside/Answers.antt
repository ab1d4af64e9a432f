use Rattle.binding_laws.proofs.ListedOutside as law
use Rattle.binding_laws.proofs.StepOutside.{step_outside}
use Rattle.binding_laws.proofs.CallOutside.{call_outside_law}
use Rattle.binding_laws.proofs.laws.listed_outside.Goals as goal

pub returns : goal.returns
returns c = record { own = law.listed_outside; by_step = step_outside; by_call = call_outside_law }
