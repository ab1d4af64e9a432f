use Rattle.plan_laws.proofs.Calls.{at_once_law}
use Rattle.plan_laws.proofs.CallExample.{three_labels, call_with_body}
use Rattle.plan_laws.proofs.Bound.{net_binds}
use Rattle.plan_laws.proofs.CallsAgain.{at_once_wherever}
use Rattle.plan_laws.proofs.of_calls.call_at_once.Goals as goal

pub returns : goal.returns
returns c = record { leads = at_once_law; wherever = at_once_wherever; example = three_labels; body = call_with_body; binds = net_binds }
