use Rattle.plan_laws.proofs.ByContents as law
use Rattle.plan_laws.proofs.of_calls.right_by_contents.Goals as goal

pub returns : goal.returns
returns c = record { right = law.right_wherever; follows = law.derived_follows; as_read = law.as_read; next_after = law.next_after }
