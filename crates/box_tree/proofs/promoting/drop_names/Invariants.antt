use Rattle.std.proofs.Common.{◌≡◌, drop}
use Rattle.box_tree.specs.Edits.{less_names}
use Rattle.box_tree.proofs.promoting.drop_names.Given as goal

-- what is left to do with the keys comes to the same
abbrev pub invariant-loop-name : goal.invariant-loop-name
invariant-loop-name l = less_names (drop l.name-index l.names) l.set.keys ≡ less_names l.names l.initial.set.keys
