use Rattle.std.proofs.Common.{◌∙◌}
use Rattle.name_map.proofs.page.begin_slots.Goals as goal

pub returns-clause-same : goal.returns-clause-same
returns-clause-same g c = λ i. c.make_slots.ensures.same i ∙ c.take_spare.ensures i
