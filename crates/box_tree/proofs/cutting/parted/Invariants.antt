use Rattle.box_tree.proofs.KeptAndCut.{IsParted}
use Rattle.box_tree.proofs.cutting.parted.Given as goal

abbrev pub invariant-loop-other : goal.invariant-loop-other
invariant-loop-other l = IsParted l.op l.name l.names l.passed l.other-index l.kept.items l.gone.items
