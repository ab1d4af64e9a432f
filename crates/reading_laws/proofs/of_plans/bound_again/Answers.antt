use Rattle.reading_laws.proofs.Listed as law
use Rattle.reading_laws.proofs.InnerListed as inner
use Rattle.reading_laws.proofs.of_plans.bound_again.Goals as goal

pub returns : goal.returns
returns c = record { root = law.listed_law; inner = inner.inner_listed }
