use Rattle.std.proofs.Common.{FitsSigned, rules, true, false}
use Rattle.std.specs.Int.{w128}
use Rattle.std.proofs.lemmas.Int.{to_z-of_z}
use Rattle.std.proofs.lemmas.Result.{IfOk-weaker}
use Rattle.akl_terms.specs.Arithmetic.{value, truth}
use Rattle.rule_plan.proofs.EvalRight.{clash_tried, value_right, holds_right, fails_right, answer_tried, waits_tried, never_tried}
use Rattle.rule_plan.proofs.evaluating.eval.Goals as goal

pub telling_plan-requires-clause-right : goal.telling_plan-requires-clause-right
telling_plan-requires-clause-right c =
    let k = rw (c.in-Consistent.is, c.chain-chain.ensures.nodes, c.chain-chain.ensures.stores, c.requires.program) at c.in_ok-consistent.ensures in
    let e = rw (c.in-Is.is, c.chain-chain.ensures.nodes, c.chain-chain.ensures.symbols, c.chain-chain.ensures.stores, c.requires.program) at c.in_ok-value.ensures.answers in
    let f : FitsSigned w128 c.in-Is.value = search rules in
    rw (to_z-of_z w128 c.in-Is.value f)
    (value_right c.args.view.now c.requires.seen c.args.goal c.args.arithmetic.frame c.args.arithmetic.test c.args.arithmetic.left c.args.arithmetic.right c.requires.place c.requires.sight k c.in-Is.value e)

pub eval_plan-requires-clause-right : goal.eval_plan-requires-clause-right
eval_plan-requires-clause-right c =
    let k = rw (c.in-Consistent.is, c.chain-chain.ensures.nodes, c.chain-chain.ensures.stores, c.requires.program) at c.in_ok-consistent.ensures in
    let e = rw (c.in-Holds.is, c.chain-chain.ensures.nodes, c.chain-chain.ensures.symbols, c.chain-chain.ensures.stores, c.requires.program) at c.in_ok-value.ensures.answers in
    holds_right c.args.view.now c.requires.seen c.args.goal c.args.arithmetic.frame c.args.arithmetic.test c.args.arithmetic.left c.args.arithmetic.right c.requires.place c.requires.sight k e

pub eval_plan-requires-in-Fails-clause-right : goal.eval_plan-requires-in-Fails-clause-right
eval_plan-requires-in-Fails-clause-right c =
    let k = rw (c.in-Consistent.is, c.chain-chain.ensures.nodes, c.chain-chain.ensures.stores, c.requires.program) at c.in_ok-consistent.ensures in
    let e = rw (c.in-Fails.is, c.chain-chain.ensures.nodes, c.chain-chain.ensures.symbols, c.chain-chain.ensures.stores, c.requires.program) at c.in_ok-value.ensures.answers in
    fails_right c.args.view.now c.requires.seen c.args.goal c.args.arithmetic.frame c.args.arithmetic.test c.args.arithmetic.left c.args.arithmetic.right c.requires.place c.requires.sight k e

pub returns-in-Is : goal.returns-in-Is
returns-in-Is c =
    let k = rw (c.in-Consistent.is, c.chain-chain.ensures.nodes, c.chain-chain.ensures.stores, c.requires.program) at c.in_ok-consistent.ensures in
    let e = rw (c.in-Is.is, c.chain-chain.ensures.nodes, c.chain-chain.ensures.symbols, c.chain-chain.ensures.stores, c.requires.program) at c.in_ok-value.ensures.answers in
    IfOk-weaker c.telling_plan.result _ _
    (λ o h. answer_tried c.args.view.now c.requires.seen c.args.goal c.args.arithmetic.frame c.args.arithmetic.test c.args.arithmetic.left c.args.arithmetic.right c.requires.place c.requires.sight k
    (value c.in-Is.value) e c.args.noise.now.items c.requires.silent o h) c.telling_plan.ensures

pub returns-in-Holds : goal.returns-in-Holds
returns-in-Holds c =
    let k = rw (c.in-Consistent.is, c.chain-chain.ensures.nodes, c.chain-chain.ensures.stores, c.requires.program) at c.in_ok-consistent.ensures in
    let e = rw (c.in-Holds.is, c.chain-chain.ensures.nodes, c.chain-chain.ensures.symbols, c.chain-chain.ensures.stores, c.requires.program) at c.in_ok-value.ensures.answers in
    IfOk-weaker c.eval_plan.result _ _
    (λ o h. answer_tried c.args.view.now c.requires.seen c.args.goal c.args.arithmetic.frame c.args.arithmetic.test c.args.arithmetic.left c.args.arithmetic.right c.requires.place c.requires.sight k
    (truth true) e c.args.noise.now.items c.requires.silent o h) c.eval_plan.ensures

pub returns-in-Fails : goal.returns-in-Fails
returns-in-Fails c =
    let k = rw (c.in-Consistent.is, c.chain-chain.ensures.nodes, c.chain-chain.ensures.stores, c.requires.program) at c.in_ok-consistent.ensures in
    let e = rw (c.in-Fails.is, c.chain-chain.ensures.nodes, c.chain-chain.ensures.symbols, c.chain-chain.ensures.stores, c.requires.program) at c.in_ok-value.ensures.answers in
    IfOk-weaker c.eval_plan-in-Fails.result _ _
    (λ o h. answer_tried c.args.view.now c.requires.seen c.args.goal c.args.arithmetic.frame c.args.arithmetic.test c.args.arithmetic.left c.args.arithmetic.right c.requires.place c.requires.sight k
    (truth false) e c.args.noise.now.items c.requires.silent o h) c.eval_plan-in-Fails.ensures

pub returns-in_default : goal.returns-in_default
returns-in_default c =
    let d = rw (c.in_default.is, c.chain-chain.ensures.nodes, c.chain-chain.ensures.stores, c.requires.program) at c.in_ok-consistent.ensures in
    clash_tried c.args.view.now c.requires.seen c.args.goal c.args.arithmetic.frame c.args.arithmetic.test c.args.arithmetic.left c.args.arithmetic.right c.requires.place c.requires.sight
    c.args.noise.now.items c.requires.silent (λ k. d.1.differ (k.heads d.0 d.1.is_left d.1.is_right))

pub returns-in_ok-push_awaited-in-Waits : goal.returns-in_ok-push_awaited-in-Waits
returns-in_ok-push_awaited-in-Waits c =
    let k = rw (c.in-Consistent.is, c.chain-chain.ensures.nodes, c.chain-chain.ensures.stores, c.requires.program) at c.in_ok-consistent.ensures in
    let e = rw (c.in-Waits.is, c.chain-chain.ensures.nodes, c.chain-chain.ensures.symbols, c.chain-chain.ensures.stores, c.requires.program) at c.in_ok-value.ensures.answers in
    waits_tried c.args.view.now c.requires.seen c.args.goal c.args.arithmetic.frame c.args.arithmetic.test c.args.arithmetic.left c.args.arithmetic.right c.requires.place c.requires.sight k c.in-Waits.on e
    c.args.noise.now.items _ c.requires.silent c.in_ok-push_awaited-in-Waits.ensures

pub returns-in-Never : goal.returns-in-Never
returns-in-Never c =
    let k = rw (c.in-Consistent.is, c.chain-chain.ensures.nodes, c.chain-chain.ensures.stores, c.requires.program) at c.in_ok-consistent.ensures in
    let e = rw (c.in-Never.is, c.chain-chain.ensures.nodes, c.chain-chain.ensures.symbols, c.chain-chain.ensures.stores, c.requires.program) at c.in_ok-value.ensures.answers in
    never_tried c.args.view.now c.requires.seen c.args.goal c.args.arithmetic.frame c.args.arithmetic.test c.args.arithmetic.left c.args.arithmetic.right c.requires.place c.requires.sight k e
    c.args.noise.now.items c.requires.silent
