use Rattle.std.proofs.Common.{◌≡◌, ◌++◌, List, map, take}
use Rattle.akl_terms.specs.declared.term.Node.{Node}
use Rattle.box_tree.specs.Tables.{new_box}
use Rattle.opened_places.specs.Listed.{new_placed}
use Rattle.opened_places.proofs.places.push_new.Given as goal

abbrev pub invariant-loop-made : goal.invariant-loop-made
invariant-loop-made l = record {
  placed : (nodes : List Node) → l.places.items ≡ l.fn.places.items ++ new_placed l.around (map (new_box nodes) (take l.made-index l.boxes));
  path : l.path.items ≡ l.around;
}
