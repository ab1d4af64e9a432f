use Rattle.std.proofs.Common.{◌≡◌, List, map, take}
use Rattle.akl_terms.specs.declared.term.Node.{Node}
use Rattle.table_laws.specs.Writes.{names_drawn}
use Rattle.box_tree.specs.Tables.{new_box}
use Rattle.box_tree.proofs.forking.drawn_names.Given as goal

abbrev pub invariant-loop-new : goal.invariant-loop-new
invariant-loop-new l = (nodes : List Node) → l.names.items ≡ names_drawn (map (new_box nodes) (take l.new-index l.news))
