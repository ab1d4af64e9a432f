use Rattle.std.proofs.Common.{ap, ◌∙◌}
use Rattle.local_store.specs.Parts.{with_part}
use Rattle.local_store.proofs.PartsJoined.{nothing-part}
use Rattle.local_store.proofs.telling.ToldPart.new.Goals as goal

pub returns-clause-empty : goal.returns-clause-empty
returns-clause-empty c = λ s. ap (with_part s) c.of.ensures.part ∙ nothing-part c.new.result c.new.ensures.frames c.new.ensures.ports c.new.ensures.bindings s
