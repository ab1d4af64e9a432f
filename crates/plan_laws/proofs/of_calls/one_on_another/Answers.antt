use Rattle.plan_laws.proofs.OnTop as law
use Rattle.plan_laws.proofs.of_calls.one_on_another.Goals as goal

pub returns : goal.returns
returns c = record { list = law.lists; derives = law.derives_on; on_top = law.on_top }
