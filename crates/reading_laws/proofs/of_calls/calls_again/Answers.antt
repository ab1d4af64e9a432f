use Rattle.reading_laws.proofs.GrownCalls as law
use Rattle.reading_laws.proofs.CallPlans as plan
use Rattle.reading_laws.proofs.of_calls.calls_again.Goals as goal

pub returns : goal.returns
returns c = record { again = law.calls_later; plans = plan.call_plan }
