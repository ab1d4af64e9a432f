use Rattle.opened_places.proofs.OpenedWays as law
use Rattle.opened_places.proofs.laws.opens.Goals as goal

pub returns : goal.returns
returns c = law.opens_law
