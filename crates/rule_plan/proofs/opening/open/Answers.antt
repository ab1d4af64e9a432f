use Rattle.std.proofs.Common.{[], ◌∙◌, ap}
use Rattle.local_store.specs.Stored.{Stored, all_named}
use Rattle.local_store.specs.Parts.{with_part, told_over}
use Rattle.local_store.specs.Chained.{innermost}
use Rattle.rule_plan.proofs.KnownStores.{told_known}
use Rattle.rule_plan.proofs.OpenRight.{open_right}
use Rattle.rule_plan.proofs.opening.open.Goals as goal

pub told_plan-requires-clause-right : goal.told_plan-requires-clause-right
told_plan-requires-clause-right c =
    let a = rw (c.chain-chain.ensures.nodes, c.chain-chain.ensures.stores, c.chain-chain.ensures.known, c.requires.program, c.worker.ensures, c.next.ensures) at c.in_ok-answer.ensures.told in
    let is = rw (c.worker.ensures, c.next.ensures) at (c.in_ok-add_port.ensures (innermost c.args.view.now.stores)) in
    open_right c.args.view.now c.chain-chain.ensures.seen c.args.goal c.args.frame c.args.port c.args.stream c.requires.place c.requires.sight (told_over (innermost c.args.view.now.stores) c.in_ok-answer.answer) a c.add_port.new.part is
    (λ old. ap (λ (s : Stored). s.frames) (c.in_ok-add_port.ensures (record { frames = old; bindings = []; ports = [] })) ∙ ap (all_named old) c.in_ok-answer.ensures.frames)

pub told_plan-requires-clause-solved : goal.told_plan-requires-clause-solved
told_plan-requires-clause-solved c =
    let a = rw (c.chain-chain.ensures.nodes, c.chain-chain.ensures.stores, c.chain-chain.ensures.known, c.requires.program) at c.in_ok-answer.ensures.told in
    told_known c.args.view.now _ (told_over (innermost c.args.view.now.stores) c.in_ok-answer.answer) a (with_part (innermost c.args.view.now.stores) c.add_port.new.part)
    (ap (λ (s : Stored). s.bindings) (c.in_ok-add_port.ensures (innermost c.args.view.now.stores)))
