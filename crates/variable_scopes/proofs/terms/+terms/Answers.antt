use Rattle.std.proofs.Common.{◌<◌, length, map, ap, ◌∙◌, arith}
use Rattle.term_syntax.specs.Sizes.{tree_size, trees_size, tail_size, steps_size}
use Rattle.term_syntax.specs.Tree.{trees, steps}
use Rattle.term_syntax.specs.View.{tree, step, tail_view}
use Rattle.variable_scopes.proofs.Numbers.{going_start, going_turn, going_room, below_after}
use Rattle.variable_scopes.proofs.Lists.{term_in_all, step_in_all, term_spell, term_hold, term_shape, terms_below, terms_shape, terms_done, step_spell, step_hold, step_shape, step_shaped, steps_below, steps_shaped, steps_done}
use Rattle.variable_scopes.proofs.TermShapes.{struct_size, list_size, chain_size, struct_below, items_below, tail_below, list_numbers, first_below, rest_below, chain_numbers}
use Rattle.variable_scopes.proofs.terms.+terms.Goals as goal

-- ---- lists of terms and operands
pub numbered_terms-loop-term-init : goal.numbered_terms-loop-term-init
numbered_terms-loop-term-init t c = rw c.new-found.ensures.items (going_start term_spell term_hold term_shape _ _ (terms_below _ _ c.requires))

pub numbered_terms-numbered_term-requires : goal.numbered_terms-numbered_term-requires
numbered_terms-numbered_term-requires t c =
    let within : c.loop-term.term-index < length c.args.terms.now = omega (arith, c.loop-term-test.true, c.loop-term.auto.term-index-end) in
    (omega (arith, term_in_all c.args.terms.now c.loop-term.term-index c.term-item.result within c.term-item.is), going_room term_spell term_hold term_shape c.args.terms.now c.loop-term.term-index c.term-item.result within c.term-item.is c.loop-term.invariant)

pub numbered_terms-loop-term-preserved : goal.numbered_terms-loop-term-preserved
numbered_terms-loop-term-preserved t c =
    let within : c.loop-term.term-index < length c.args.terms.now = omega (arith, c.loop-term-test.true, c.loop-term.auto.term-index-end) in
    rw c.in_ok-push.ensures.items
    (going_turn term_spell term_hold term_shape c.args.terms.now c.loop-term.term-index c.term-item.result c.in_ok-next.next within c.term-item.is c.in_ok-next.ensures.shape c.in_ok-next.ensures.numbers c.loop-term.invariant)

pub numbered_terms-returns-clause-shape : goal.numbered_terms-returns-clause-shape
numbered_terms-returns-clause-shape t c = terms_shape c.args.terms.now c.loop-term.term-index (omega (arith, c.loop-term-test.false, c.loop-term.auto.term-index-end)) c.loop-term.invariant

pub numbered_terms-returns-clause-numbers : goal.numbered_terms-returns-clause-numbers
numbered_terms-returns-clause-numbers t c = terms_done c.args.terms.now c.loop-term.term-index (omega (arith, c.loop-term-test.false, c.loop-term.auto.term-index-end)) c.loop-term.invariant

pub numbered_steps-loop-step-init : goal.numbered_steps-loop-step-init
numbered_steps-loop-step-init t c = rw c.new-found.ensures.items (going_start step_spell step_hold step_shape _ _ (steps_below _ _ c.requires))

pub numbered_steps-numbered_term-requires : goal.numbered_steps-numbered_term-requires
numbered_steps-numbered_term-requires t c =
    let within : c.loop-step.step-index < length c.args.operands.now = omega (arith, c.loop-step-test.true, c.loop-step.auto.step-index-end) in
    (omega (arith, step_in_all c.args.operands.now c.loop-step.step-index c.step-item.result within c.step-item.is), going_room step_spell step_hold step_shape c.args.operands.now c.loop-step.step-index c.step-item.result within c.step-item.is c.loop-step.invariant)

pub numbered_steps-loop-step-preserved : goal.numbered_steps-loop-step-preserved
numbered_steps-loop-step-preserved t c =
    let within : c.loop-step.step-index < length c.args.operands.now = omega (arith, c.loop-step-test.true, c.loop-step.auto.step-index-end) in
    rw c.in_ok-push.ensures.items
    (going_turn step_spell step_hold step_shape c.args.operands.now c.loop-step.step-index c.step-item.result _ within c.step-item.is (step_shaped _ _ c.in_ok-symbol.ensures c.in_ok-right.ensures.shape) c.in_ok-right.ensures.numbers c.loop-step.invariant)

pub numbered_steps-returns-clause-shape : goal.numbered_steps-returns-clause-shape
numbered_steps-returns-clause-shape t c = steps_shaped c.args.operands.now c.loop-step.step-index (omega (arith, c.loop-step-test.false, c.loop-step.auto.step-index-end)) c.loop-step.invariant

pub numbered_steps-returns-clause-numbers : goal.numbered_steps-returns-clause-numbers
numbered_steps-returns-clause-numbers t c = steps_done c.args.operands.now c.loop-step.step-index (omega (arith, c.loop-step-test.false, c.loop-step.auto.step-index-end)) c.loop-step.invariant

-- ---- a symbol with arguments
pub numbered_term-numbered_terms-requires : goal.numbered_term-numbered_terms-requires
numbered_term-numbered_terms-requires t c =
    let size = ap (λ z. tree_size (tree z)) c.in-Struct.is ∙ struct_size c.in-Struct.symbol c.in-Struct.arguments in
    let same = ap (λ z. trees_size (trees (map tree z))) c.deref.ensures.value in
    (omega (arith, size, same), rw c.deref.ensures.value (struct_below _ c.in-Struct.symbol c.in-Struct.arguments (rw c.in-Struct.is at c.requires)))

-- ---- what stands behind the items of a list
pub numbered_tail-numbered_term-requires : goal.numbered_tail-numbered_term-requires
numbered_tail-numbered_term-requires t c =
    let size = ap (λ z. tail_size (tail_view z)) c.in-Some.is in
    let same = ap (λ z. tree_size (tree z)) c.deref.ensures in
    (omega (arith, size, same), rw c.deref.ensures (rw c.in-Some.is at c.requires))

-- ---- a list
pub numbered_term-numbered_terms-requires-in-List : goal.numbered_term-numbered_terms-requires-in-List
numbered_term-numbered_terms-requires-in-List t c =
    let size = ap (λ z. tree_size (tree z)) c.in-List.is ∙ list_size c.in-List.items c.in-List.tail in
    let same = ap (λ z. trees_size (trees (map tree z))) c.deref-in-List.ensures.value in
    (omega (arith, size, same), rw c.deref-in-List.ensures.value (items_below _ c.in-List.items c.in-List.tail (rw c.in-List.is at c.requires)))

pub numbered_term-numbered_tail-requires : goal.numbered_term-numbered_tail-requires
numbered_term-numbered_tail-requires t c =
    let size = ap (λ z. tree_size (tree z)) c.in-List.is ∙ list_size c.in-List.items c.in-List.tail in
    (omega (arith, size), below_after _ c.in_ok-numbered_terms-in-List.ensures.numbers (tail_below _ c.in-List.items c.in-List.tail (rw c.in-List.is at c.requires)))

pub numbered_term-returns-in_ok-numbered_tail-in-List-clause-numbers : goal.numbered_term-returns-in_ok-numbered_tail-in-List-clause-numbers
numbered_term-returns-in_ok-numbered_tail-in-List-clause-numbers t c =
    rw c.in-List.is (list_numbers c.in-List.items _ c.in-List.tail _ (rw c.deref-in-List.ensures.value at c.in_ok-numbered_terms-in-List.ensures.numbers) c.in_ok-numbered_tail-in-List.ensures.numbers)

-- ---- a sum or a product
pub numbered_term-numbered_term-requires : goal.numbered_term-numbered_term-requires
numbered_term-numbered_term-requires t c =
    let size = ap (λ z. tree_size (tree z)) c.in-Chain.is ∙ chain_size c.in-Chain.first c.in-Chain.rest in
    let same = ap (λ z. tree_size (tree z)) c.deref-in-Chain.ensures in
    (omega (arith, size, same), rw c.deref-in-Chain.ensures (first_below _ c.in-Chain.first c.in-Chain.rest (rw c.in-Chain.is at c.requires)))

pub numbered_term-numbered_steps-requires : goal.numbered_term-numbered_steps-requires
numbered_term-numbered_steps-requires t c =
    let size = ap (λ z. tree_size (tree z)) c.in-Chain.is ∙ chain_size c.in-Chain.first c.in-Chain.rest in
    let same = ap (λ z. steps_size (steps (map step z))) c.deref-in-Chain-2.ensures.value in
    (omega (arith, size, same), rw c.deref-in-Chain-2.ensures.value (below_after _ c.in_ok-first-in-Chain.ensures.numbers (rest_below _ c.in-Chain.first c.in-Chain.rest (rw c.in-Chain.is at c.requires))))

pub numbered_term-returns-in_ok-first-in-Chain-2-clause-numbers : goal.numbered_term-returns-in_ok-first-in-Chain-2-clause-numbers
numbered_term-returns-in_ok-first-in-Chain-2-clause-numbers t c =
    rw c.in-Chain.is (chain_numbers c.in-Chain.first c.in_ok-first-in-Chain-2.first c.in-Chain.rest _ (rw (c.deref-in-Chain.ensures, ← c.in_ok-first-in-Chain-2.ensures.ok) at c.in_ok-first-in-Chain.ensures.numbers)
    (rw c.deref-in-Chain-2.ensures.value at c.in_ok-rest-in-Chain.ensures.numbers))
