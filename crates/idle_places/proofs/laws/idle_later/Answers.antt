use Rattle.idle_places.proofs.Later as law
use Rattle.idle_places.proofs.laws.idle_later.Goals as goal

pub returns : goal.returns
returns c = law.idle_later
