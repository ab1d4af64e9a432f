use Rattle.reading_laws.proofs.SeenCalls as law
use Rattle.reading_laws.proofs.of_calls.seen_calls.Goals as goal

pub returns : goal.returns
returns c = law.seen_call
