use Rattle.std.proofs.Common.{◌≡◌, List, drop}
use Rattle.akl_terms.specs.declared.term.Node.{Node}
use Rattle.table_laws.specs.Writes.{first_fail}
use Rattle.box_tree.specs.Edits.{named_atoms}
use Rattle.box_tree.proofs.forking.first_fail.Given as goal

abbrev pub invariant-loop-name : goal.invariant-loop-name
invariant-loop-name l = (nodes : List Node) → first_fail (named_atoms nodes (drop l.name-index l.goals)) ≡ first_fail (named_atoms nodes l.goals)
