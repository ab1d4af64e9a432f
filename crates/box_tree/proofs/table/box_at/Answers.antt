use Rattle.std.proofs.Common.{subst}
use Rattle.box_tree.specs.Kinds.{IsBox}
use Rattle.box_tree.proofs.table.box_at.Goals as goal

pub returns-in-Goal : goal.returns-in-Goal
returns-in-Goal c = absurd (subst IsBox c.in-Goal.is c.requires)
