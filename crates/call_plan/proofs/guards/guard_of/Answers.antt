use Rattle.std.proofs.Common.{List, [], ◌∷◌, ◌++◌, subst}
use Rattle.akl_terms.specs.declared.program.Code.{Code}
use Rattle.call_plan.specs.Owns.{stored}
use Rattle.call_plan.proofs.EvaluatingOn.{Evaluating, holds_on, ends_fails, ends_holds}
use Rattle.call_plan.proofs.guards.guard_of.Goals as goal

pub returns-then-not-holds : goal.returns-then-not-holds
returns-then-not-holds c =
    let rest = subst (λ (cs : List Code). Evaluating c.args.chain.now.symbols c.args.chain.now.nodes (c.args.chain.now.stores ++ stored c.args.frame c.args.own.now ∷ []) c.args.frame c.args.codes.now c.args.labels.now.items c.loop-code.labels.items c.loop-code.goal cs)
    c.in-Some.ensures.cases.0 c.loop-code.invariant in
    let fails = rw (c.in-Some-2.is, c.if-not-holds.true) at c.in_ok-holds.ensures in
    rw (c.in_ok-push.ensures.items, c.evaluation.ensures)
    (ends_fails c.args.chain.now.symbols c.args.chain.now.nodes (c.args.chain.now.stores ++ stored c.args.frame c.args.own.now ∷ []) c.args.frame c.args.codes.now c.args.labels.now.items c.loop-code.labels.items c.loop-code.goal c.in-Some.code.now c.in-Some.behind.now rest fails)

pub loop-code-preserved : goal.loop-code-preserved
loop-code-preserved c =
    let rest = subst (λ (cs : List Code). Evaluating c.args.chain.now.symbols c.args.chain.now.nodes (c.args.chain.now.stores ++ stored c.args.frame c.args.own.now ∷ []) c.args.frame c.args.codes.now c.args.labels.now.items c.loop-code.labels.items c.loop-code.goal cs)
    c.in-Some.ensures.cases.0 c.loop-code.invariant in
    let holds = rw (c.in-Some-2.is, c.if-not-holds.false) at c.in_ok-holds.ensures in
    rw (c.in_ok-push.ensures.items, c.evaluation.ensures)
    (holds_on c.args.chain.now.symbols c.args.chain.now.nodes (c.args.chain.now.stores ++ stored c.args.frame c.args.own.now ∷ []) c.args.frame c.args.codes.now c.args.labels.now.items c.loop-code.labels.items c.loop-code.goal c.in-Some.code.now c.in-Some.behind.now rest holds)

pub returns : goal.returns
returns c = ends_holds c.args.chain.now.symbols c.args.chain.now.nodes (c.args.chain.now.stores ++ stored c.args.frame c.args.own.now ∷ []) c.args.frame c.args.codes.now c.args.labels.now.items c.loop-code.labels.items c.loop-code.goal c.loop-code.rest.now
    c.in_default.ensures.cases c.loop-code.invariant
