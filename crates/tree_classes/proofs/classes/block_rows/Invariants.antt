use Rattle.std.proofs.Common.{map}
use Rattle.tree_classes.specs.Classes.{AreBlockRows}
use Rattle.tree_classes.proofs.classes.block_rows.Given as goal

abbrev pub invariant-loop-node : goal.invariant-loop-node
invariant-loop-node l = AreBlockRows (map (λ v. v.items) l.rows) l.blocks (map (λ v. v.items) l.among.items) l.node
