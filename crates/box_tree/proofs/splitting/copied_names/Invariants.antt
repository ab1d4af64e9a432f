use Rattle.std.proofs.Common.{◌≡◌, List, map, take}
use Rattle.akl_terms.specs.declared.term.Node.{Node}
use Rattle.table_laws.specs.Writes.{names_copied}
use Rattle.box_tree.specs.Tables.{box_copy}
use Rattle.box_tree.proofs.splitting.copied_names.Given as goal

abbrev pub invariant-loop-copy : goal.invariant-loop-copy
invariant-loop-copy l = (nodes : List Node) → l.names.items ≡ names_copied (map (box_copy nodes) (take l.copy-index l.copies))
