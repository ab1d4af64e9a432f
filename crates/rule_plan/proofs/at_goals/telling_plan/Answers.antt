use Rattle.std.proofs.Common.{refl}
use Rattle.local_store.specs.Parts.{with_part, told_over}
use Rattle.local_store.specs.Chained.{innermost}
use Rattle.rule_plan.proofs.KnownStores.{told_known}
use Rattle.rule_plan.proofs.at_goals.telling_plan.Goals as goal

pub told_plan-requires-clause-right : goal.told_plan-requires-clause-right
told_plan-requires-clause-right c =
    let a = rw (c.chain.ensures.nodes, c.chain.ensures.stores, c.chain.ensures.known, c.requires.program) at c.in_ok-answer.ensures.told in
    c.requires.right c.in_ok-answer.answer a c.in_ok-answer.ensures.frames

pub told_plan-requires-clause-solved : goal.told_plan-requires-clause-solved
told_plan-requires-clause-solved c =
    let a = rw (c.chain.ensures.nodes, c.chain.ensures.stores, c.chain.ensures.known, c.requires.program) at c.in_ok-answer.ensures.told in
    told_known c.args.view.now _ (told_over (innermost c.args.view.now.stores) c.in_ok-answer.answer) a (with_part (innermost c.args.view.now.stores) c.in_ok-answer.answer.part) refl
