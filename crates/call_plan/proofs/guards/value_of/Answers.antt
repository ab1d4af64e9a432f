use Rattle.std.proofs.lemmas.Result.{IfOk-weaker}
use Rattle.call_plan.proofs.OwnWithin.{solved_within, answers_by}
use Rattle.call_plan.proofs.guards.value_of.Goals as goal

pub evaluate_over-requires-clause-solved : goal.evaluate_over-requires-clause-solved
evaluate_over-requires-clause-solved c = rw c.templates.ensures.nodes (solved_within c.args.chain.now.nodes c.args.chain.now.stores c.args.goal.frame c.args.own.now c.requires.plain c.requires.solved)

pub returns : goal.returns
returns c = IfOk-weaker c.evaluate_over.result _ _
    (λ a h. answers_by c.templates.result.now c.args.chain.now c.args.own.now c.args.goal a c.requires.plain c.requires.solved c.templates.ensures.nodes c.templates.ensures.symbols h)
    c.evaluate_over.ensures.answers
