use Rattle.std.proofs.Common.{◌≡◌, ℕ, List, [], ◌∙◌, ap}
use Rattle.akl_terms.specs.declared.name.Name.{Name}
use Rattle.local_store.specs.Stored.{Stored, named, all_named}
use Rattle.local_store.specs.Parts.{with_part, told_over}
use Rattle.local_store.specs.Chained.{innermost}
use Rattle.rule_plan.proofs.KnownStores.{told_known}
use Rattle.rule_plan.proofs.SendRight.{send_right}
use Rattle.rule_plan.proofs.sending.send_to.Goals as goal

pub told_plan-requires-clause-right : goal.told_plan-requires-clause-right
told_plan-requires-clause-right c =
    let has = rw c.chain-chain.ensures.stores at c.in_ok-tail.ensures in
    let a = rw (c.chain-chain.ensures.nodes, c.chain-chain.ensures.stores, c.chain-chain.ensures.known, c.worker.ensures, c.next.ensures, c.requires.program) at c.in_ok-answer.ensures.told in
    let is = rw (c.worker.ensures, c.next.ensures, c.requires.program) at (c.in_ok-set_tail.ensures (innermost c.args.view.now.stores)) in
    let made : (old : List Name) → all_named old c.set_tail.new.part.frames.items ≡ named (all_named old c.in_ok-answer.answer.part.frames.items) (record { worker = c.worker.result; number = c.next.result }) =
    λ old. ap (λ (s : Stored). s.frames) (c.in_ok-set_tail.ensures (record { frames = old; bindings = []; ports = [] })) in
    let names : (old : List Name) → all_named old c.set_tail.new.part.frames.items ≡ named old (record { worker = c.args.view.now.worker; number = c.args.view.now.next }) =
    λ old. made old ∙ ap (λ (ns : List Name). named (all_named old ns) (record { worker = c.worker.result; number = c.next.result })) c.in_ok-answer.ensures.frames
    ∙ ap (λ (w : ℕ). named old (record { worker = w; number = c.next.result })) c.worker.ensures ∙ ap (λ (n : ℕ). named old (record { worker = c.args.view.now.worker; number = n })) c.next.ensures in
    send_right c.args.view.now c.args.goal c.args.message.frame c.args.message.message c.args.message.port c.args.port c.requires.goes c.requires.place c.requires.sight c.in_ok-tail.tail has
    (told_over (innermost c.args.view.now.stores) c.in_ok-answer.answer) a c.set_tail.new.part is names

pub told_plan-requires-clause-solved : goal.told_plan-requires-clause-solved
told_plan-requires-clause-solved c =
    let a = rw (c.chain-chain.ensures.nodes, c.chain-chain.ensures.stores, c.chain-chain.ensures.known, c.requires.program) at c.in_ok-answer.ensures.told in
    told_known c.args.view.now _ (told_over (innermost c.args.view.now.stores) c.in_ok-answer.answer) a (with_part (innermost c.args.view.now.stores) c.set_tail.new.part)
    (ap (λ (s : Stored). s.bindings) (c.in_ok-set_tail.ensures (innermost c.args.view.now.stores)))
