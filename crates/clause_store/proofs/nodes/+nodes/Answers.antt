use Rattle.std.proofs.Common.{◌≡◌, suc, ◌-◌, length, map, take, ap, arith, rules}
use Rattle.std.proofs.lemmas.List.{take_all, drop_all, length-map}
use Rattle.std.proofs.lemmas.Int.{to_z-of_z}
use mir.Val.{SFits}
use mir.Syntax.{w128}
use Rattle.term_syntax.specs.Tree.{Step}
use Rattle.term_syntax.specs.Sizes.{tree_size}
use Rattle.term_syntax.specs.View.{tree, step}
use Rattle.term_syntax.proofs.Trees.{tree_step, tree_var, tree_int, tree_struct}
use Rattle.clause_store.proofs.Growing.{interned, node_after, each_after}
use Rattle.clause_store.proofs.Sums.{more_taken, one_dropped, next_taken, next_dropped, taken_within, trees_sum, steps_sum}
use Rattle.clause_store.proofs.Turns.{group_start, group_more, group_room, group_length, group_put, symbol_room, right_room, left_after, chain_more, pair_room, list_start, list_more, list_room, rest_after, empty_end, variable_put, integer_put, compound_put}
use Rattle.clause_store.proofs.nodes.+nodes.Goals as goal

pub chain_node-loop-step-preserved : goal.chain_node-loop-step-preserved
chain_node-loop-step-preserved t c =
    let taken = more_taken step c.args.rest.now c.loop-step.step-index c.step-item.result (omega (arith, c.loop-step-test.true, c.loop-step.auto.step-index-end)) c.step-item.is in
    rw (taken, tree_step c.step-item.result, ← c.as_str.ensures) (chain_more _ c.loop-step.invariant (interned _ _ _ _ c.in_ok-symbol.ensures.ok) c.in_ok-right.ensures c.in_ok-node-2.ensures.node c.in_ok-node-2.ensures.put)

pub chain_node-intern-requires : goal.chain_node-intern-requires
chain_node-intern-requires t c = symbol_room c.requires c.loop-step.invariant (omega (arith, taken_within steps_sum step c.args.rest.now c.loop-step.step-index))

pub chain_node-pair_node-requires-clause-left : goal.chain_node-pair_node-requires-clause-left
chain_node-pair_node-requires-clause-left t c = left_after c.loop-step.invariant (interned _ _ _ _ c.in_ok-symbol.ensures.ok) c.in_ok-right.ensures

pub chain_node-pair_node-requires-clause-right : goal.chain_node-pair_node-requires-clause-right
chain_node-pair_node-requires-clause-right t c = node_after c.in_ok-right.right c.in_ok-right.ensures.stands

pub end_node-returns-in_ok-symbol-in-None : goal.end_node-returns-in_ok-symbol-in-None
end_node-returns-in_ok-symbol-in-None t c = rw c.in-None.is (empty_end (interned _ _ _ _ c.in_ok-symbol-in-None.ensures.ok))

pub list_node-pair_node-requires-clause-left : goal.list_node-pair_node-requires-clause-left
list_node-pair_node-requires-clause-left t c = node_after c.in_ok-item.item c.in_ok-item.ensures.stands

pub list_node-pair_node-requires-clause-right : goal.list_node-pair_node-requires-clause-right
list_node-pair_node-requires-clause-right t c = rest_after c.loop-index.invariant c.in_ok-item.ensures

pub put_terms-loop-term-init : goal.put_terms-loop-term-init
put_terms-loop-term-init t c = rw c.new-group.ensures.items (group_start _)

pub term_node-returns-in-Var : goal.term_node-returns-in-Var
term_node-returns-in-Var t c = rw (c.in-Var.is, tree_var c.in-Var.number) (variable_put _ _)

pub chain_node-term_node-requires-in-loop-step : goal.chain_node-term_node-requires-in-loop-step
chain_node-term_node-requires-in-loop-step t c =
    let next = next_taken steps_sum step c.args.rest.now c.loop-step.step-index c.step-item.result (omega (arith, c.loop-step-test.true, c.loop-step.auto.step-index-end)) c.step-item.is in
    let right : tree_size (step c.step-item.result).right ≡ tree_size (tree c.step-item.result.right) = ap (λ (z : Step). tree_size z.right) (tree_step c.step-item.result) in
    (omega (arith, next, right), right_room c.requires c.loop-step.invariant (interned _ _ _ _ c.in_ok-symbol.ensures.ok) (omega (arith, next, right)))

pub chain_node-pair_node-requires-clause-room : goal.chain_node-pair_node-requires-clause-room
chain_node-pair_node-requires-clause-room t c =
    let next = next_taken steps_sum step c.args.rest.now c.loop-step.step-index c.step-item.result (omega (arith, c.loop-step-test.true, c.loop-step.auto.step-index-end)) c.step-item.is in
    let right : tree_size (step c.step-item.result).right ≡ tree_size (tree c.step-item.result.right) = ap (λ (z : Step). tree_size z.right) (tree_step c.step-item.result) in
    pair_room (right_room c.requires c.loop-step.invariant (interned _ _ _ _ c.in_ok-symbol.ensures.ok) (omega (arith, next, right))) c.in_ok-right.ensures

pub list_node-loop-index-init : goal.list_node-loop-index-init
list_node-loop-index-init t c = rw (drop_all (length c.args.items.now) c.args.items.now (omega arith)) (list_start c.in_ok-node.ensures (interned _ _ _ _ c.in_ok-cell.ensures.ok))

pub list_node-term_node-requires : goal.list_node-term_node-requires
list_node-term_node-requires t c =
    let at : suc (c.loop-index.index - 1) ≡ c.loop-index.index = omega (arith, c.loop-index-test.true) in
    let next = next_dropped trees_sum tree c.args.items.now (c.loop-index.index - 1) c.index-items-index.result (omega (arith, c.loop-index-test.true, c.loop-index.auto.index)) c.index-items-index.is in
    let all = rw at at next in
    (omega (arith, all), list_room c.requires c.loop-index.invariant (omega (arith, all)))

pub list_node-pair_node-requires-clause-room : goal.list_node-pair_node-requires-clause-room
list_node-pair_node-requires-clause-room t c =
    let at : suc (c.loop-index.index - 1) ≡ c.loop-index.index = omega (arith, c.loop-index-test.true) in
    let next = next_dropped trees_sum tree c.args.items.now (c.loop-index.index - 1) c.index-items-index.result (omega (arith, c.loop-index-test.true, c.loop-index.auto.index)) c.index-items-index.is in
    let all = rw at at next in
    pair_room (list_room c.requires c.loop-index.invariant (omega (arith, all))) c.in_ok-item.ensures

pub list_node-loop-index-preserved : goal.list_node-loop-index-preserved
list_node-loop-index-preserved t c =
    let at : suc (c.loop-index.index - 1) ≡ c.loop-index.index = omega (arith, c.loop-index-test.true) in
    let dropped = one_dropped tree c.args.items.now (c.loop-index.index - 1) c.index-items-index.result (omega (arith, c.loop-index-test.true, c.loop-index.auto.index)) c.index-items-index.is in
    rw (dropped, at) (list_more (tree c.index-items-index.result) c.loop-index.invariant c.in_ok-item.ensures c.in_ok-node-2.ensures.node c.in_ok-node-2.ensures.put)

pub put_terms-term_node-requires : goal.put_terms-term_node-requires
put_terms-term_node-requires t c =
    let next = next_taken trees_sum tree c.args.terms.now c.loop-term.term-index c.term-item.result (omega (arith, c.loop-term-test.true, c.loop-term.auto.term-index-end)) c.term-item.is in
    (omega (arith, next), group_room c.requires c.loop-term.invariant next)

pub put_terms-loop-term-preserved : goal.put_terms-loop-term-preserved
put_terms-loop-term-preserved t c =
    let taken = more_taken tree c.args.terms.now c.loop-term.term-index c.term-item.result (omega (arith, c.loop-term-test.true, c.loop-term.auto.term-index-end)) c.term-item.is in
    rw (taken, c.in_ok-push.ensures.items) (group_more c.loop-term.invariant c.in_ok-node.ensures)

pub put_terms-push-requires-2-clause-group : goal.put_terms-push-requires-2-clause-group
put_terms-push-requires-2-clause-group t c = rw c.deref.ensures.value (each_after _ c.loop-term.invariant.each)

pub put_terms-returns-clause-count : goal.put_terms-returns-clause-count
put_terms-returns-clause-count t c =
    let all : take c.loop-term.term-index c.args.terms.now ≡ c.args.terms.now = take_all c.loop-term.term-index c.args.terms.now (omega (arith, c.loop-term-test.false, c.loop-term.auto.term-index-end)) in
    omega (arith, c.len.ensures, c.loop-term.group.ok, group_length _ c.loop-term.invariant.each, ap (λ z. length (map tree z)) all, length-map c.args.terms.now tree)

pub put_terms-returns-clause-put : goal.put_terms-returns-clause-put
put_terms-returns-clause-put t c =
    let all : take c.loop-term.term-index c.args.terms.now ≡ c.args.terms.now = take_all c.loop-term.term-index c.args.terms.now (omega (arith, c.loop-term-test.false, c.loop-term.auto.term-index-end)) in
    let so_far = rw all at c.loop-term.invariant in
    group_put so_far c.in_ok-first.ensures.first (omega (arith, c.len.ensures, c.loop-term.group.ok)) (rw c.deref.ensures.value at c.in_ok-first.ensures.nodes)

pub term_node-returns-in-Int : goal.term_node-returns-in-Int
term_node-returns-in-Int t c =
    let f : SFits w128 c.in-Int.value = search rules in
    rw (to_z-of_z w128 c.in-Int.value f, c.in-Int.is, tree_int c.in-Int.value) (integer_put _ _)

pub term_node-returns-in_ok-first-in-Struct : goal.term_node-returns-in_ok-first-in-Struct
term_node-returns-in_ok-first-in-Struct t c =
    rw (c.in-Struct.is, tree_struct c.in-Struct.symbol c.in-Struct.arguments, ← c.as_str.ensures) (compound_put (interned _ _ _ _ c.in_ok-symbol-in-Struct.ensures.ok) (rw c.deref.ensures.value at c.in_ok-first-in-Struct.ensures.put))
