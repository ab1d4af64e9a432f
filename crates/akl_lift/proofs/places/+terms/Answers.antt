use Rattle.std.proofs.Common.{◌<◌, length, map, arith}
use Rattle.term_syntax.specs.View.{tree, step}
use Rattle.akl_lift.specs.Places.{placed_tree}
use Rattle.akl_lift.proofs.Placed.{placed_step, one_more, terms_placed, operands_placed, step_placed}
use Rattle.akl_lift.proofs.places.+terms.Goals as goal

pub placed_terms-loop-term-preserved : goal.placed_terms-loop-term-preserved
placed_terms-loop-term-preserved t c =
    let within : c.loop-term.term-index < length c.args.terms.now = omega (arith, c.loop-term-test.true, c.loop-term.auto.term-index-end) in
    rw c.in_ok-push.ensures.items (one_more tree (placed_tree c.args.order.now) _ c.args.terms.now c.loop-term.found.items c.loop-term.term-index c.term-item.result c.in_ok-next.next within c.term-item.is c.in_ok-next.ensures c.loop-term.invariant)

pub placed_terms-returns : goal.placed_terms-returns
placed_terms-returns t c = terms_placed c.args.order.now c.args.terms.now (map tree c.loop-term.found.items) c.loop-term.term-index (omega (arith, c.loop-term-test.false, c.loop-term.auto.term-index-end)) c.loop-term.invariant

pub placed_steps-loop-step-preserved : goal.placed_steps-loop-step-preserved
placed_steps-loop-step-preserved t c =
    let within : c.loop-step.step-index < length c.args.operands.now = omega (arith, c.loop-step-test.true, c.loop-step.auto.step-index-end) in
    rw c.in_ok-push.ensures.items
    (one_more step (placed_step c.args.order.now) _ c.args.operands.now c.loop-step.found.items c.loop-step.step-index c.step-item.result _ within c.step-item.is
    (step_placed c.args.order.now c.step-item.result _ c.in_ok-symbol.ensures c.in_ok-right.ensures) c.loop-step.invariant)

pub placed_steps-returns : goal.placed_steps-returns
placed_steps-returns t c = operands_placed c.args.order.now c.args.operands.now (map step c.loop-step.found.items) c.loop-step.step-index (omega (arith, c.loop-step-test.false, c.loop-step.auto.step-index-end)) c.loop-step.invariant
