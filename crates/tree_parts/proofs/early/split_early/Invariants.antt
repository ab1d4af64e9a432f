use Rattle.std.proofs.Common.{map}
use Rattle.tree_parts.proofs.Sound.{AreSound}
use Rattle.tree_parts.proofs.early.split_early.Given as goal

abbrev pub invariant-loop : goal.invariant-loop
invariant-loop l = AreSound (map (λ v. v.items) l.rows) l.start l.naming.names.items (map (λ v. v.items) l.naming.members.items)
