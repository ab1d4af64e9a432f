use Rattle.plan_laws.proofs.Agreeing as law
use Rattle.plan_laws.proofs.of_calls.same_afterwards.Goals as goal

pub returns : goal.returns
returns c = record { unwritten = law.unwritten; own_store = law.own_store }
