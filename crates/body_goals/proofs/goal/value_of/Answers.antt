use Rattle.std.proofs.lemmas.Result.{IfOk-weaker}
use Rattle.body_goals.proofs.Finding.{answers_added, solved_added}
use Rattle.body_goals.proofs.goal.value_of.Goals as goal

pub evaluate_over-requires-clause-solved : goal.evaluate_over-requires-clause-solved
evaluate_over-requires-clause-solved c = solved_added c.args.chain.now.nodes c.args.chain.now.stores c.args.part.now c.requires.solved c.templates.result.now.nodes c.templates.ensures.nodes

pub returns : goal.returns
returns c = IfOk-weaker c.evaluate_over.result _ _
    (λ a h. answers_added c.templates.result.now c.args.chain.now c.args.part.now c.args.goal a c.requires.solved c.templates.ensures.nodes c.templates.ensures.symbols h)
    c.evaluate_over.ensures.answers
