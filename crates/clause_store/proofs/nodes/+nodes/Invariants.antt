use Rattle.std.proofs.Common.{◌+◌, ◌*◌, map, take, drop}
use Rattle.term_syntax.specs.Tree.{trees, steps}
use Rattle.term_syntax.specs.Sizes.{tree_size, trees_size, tail_size, steps_size}
use Rattle.term_syntax.specs.View.{tree, step, tail_view}
use Rattle.clause_store.proofs.Turns.{GroupSoFar, ChainSoFar, ListSoFar}
use Rattle.clause_store.proofs.nodes.+nodes.Given as goal

abbrev pub invariant-put_terms-loop-term : goal.invariant-put_terms-loop-term
invariant-put_terms-loop-term l = GroupSoFar l.fn.templates l.templates l.group.items (map tree (take l.term-index l.terms))

abbrev pub invariant-chain_node-loop-step : goal.invariant-chain_node-loop-step
invariant-chain_node-loop-step l = ChainSoFar l.fn.templates l.templates l.node (tree l.fn.first) (map step (take l.step-index l.rest))

abbrev pub invariant-list_node-loop-index : goal.invariant-list_node-loop-index
invariant-list_node-loop-index l = ListSoFar l.fn.templates l.templates l.cell l.node (map tree (drop l.index l.items)) (tail_view l.fn.tail)

abbrev pub decreases-term_node : goal.decreases-term_node
decreases-term_node l = 4 * tree_size (tree l.term.now)

abbrev pub decreases-put_terms : goal.decreases-put_terms
decreases-put_terms l = 4 * trees_size (trees (map tree l.terms.now)) + 1

abbrev pub decreases-list_node : goal.decreases-list_node
decreases-list_node l = 4 * (trees_size (trees (map tree l.items.now)) + tail_size (tail_view l.tail.now)) + 2

abbrev pub decreases-end_node : goal.decreases-end_node
decreases-end_node l = 4 * tail_size (tail_view l.tail.now) + 1

abbrev pub decreases-chain_node : goal.decreases-chain_node
decreases-chain_node l = 4 * (tree_size (tree l.first.now) + steps_size (steps (map step l.rest.now))) + 1
