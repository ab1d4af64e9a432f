use Rattle.std.proofs.Common.{◌≡◌, take, map}
use Rattle.akl_model.specs.Instances.{shown_of}
use Rattle.box_tree.specs.Tables.{shown_tree}
use Rattle.box_tree.specs.Starts.{query_frame}
use Rattle.box_tree.proofs.starting.shown_terms.Given as goal

abbrev pub invariant-loop-shown : goal.invariant-loop-shown
invariant-loop-shown l = map (shown_tree l.program.templates.nodes) l.terms.items ≡ map (shown_of query_frame) (take l.shown-index l.shown-items)
