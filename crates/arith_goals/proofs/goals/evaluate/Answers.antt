use Rattle.std.proofs.Common.{◌≡◌, length, refl, sym, ap, ◌∙◌, arith}
use Rattle.std.proofs.lemmas.Result.{IfOk-weaker}
use Rattle.local_store.proofs.Known.{whole-known}
use Rattle.local_store.proofs.Resolved.{further-clash}
use Rattle.arith_goals.proofs.Forming.{answers-chain, answers-whole, waits-chain, waits-whole}
use Rattle.arith_goals.proofs.goals.evaluate.Goals as goal

pub evaluate_over-requires-clause-solved : goal.evaluate_over-requires-clause-solved
evaluate_over-requires-clause-solved c =
    let full : c.known-known.result ≡ length c.args.chain.now.stores = c.if-known-stores.true ∙ ap length c.stores.ensures in
    rw c.templates-templates.ensures.nodes (whole-known c.args.chain.now.nodes c.args.chain.now.stores c.known-known.result c.known-known.ensures.solved full).form.solved

pub returns-then-known-stores-clause-answers : goal.returns-then-known-stores-clause-answers
returns-then-known-stores-clause-answers c =
    let full : c.known-known.result ≡ length c.args.chain.now.stores = c.if-known-stores.true ∙ ap length c.stores.ensures in
    let whole = whole-known c.args.chain.now.nodes c.args.chain.now.stores c.known-known.result c.known-known.ensures.solved full in
    IfOk-weaker c.evaluate_over.result _ _ (λ a h. answers-whole c.args.chain.now c.templates-templates.result.now c.args.goal a whole c.templates-templates.ensures.nodes c.templates-templates.ensures.symbols h)
    c.evaluate_over.ensures.answers

pub returns-then-known-stores-clause-end : goal.returns-then-known-stores-clause-end
returns-then-known-stores-clause-end c =
    let full : c.known-known.result ≡ length c.args.chain.now.stores = c.if-known-stores.true ∙ ap length c.stores.ensures in
    let whole = whole-known c.args.chain.now.nodes c.args.chain.now.stores c.known-known.result c.known-known.ensures.solved full in
    IfOk-weaker c.evaluate_over.result _ _ (λ a h. waits-whole c.args.chain.now c.templates-templates.result.now.nodes a (sym full ∙ c.known-known.ensures.known) whole c.templates-templates.ensures.nodes h)
    c.evaluate_over.ensures.end

pub returns-in-Some : goal.returns-in-Some
returns-in-Some c =
    let part = c.known-known.ensures.solved.each c.known-known.result (omega arith) in
    let t = rw (c.in-Some.is, c.new.ensures, c.templates-templates.ensures.nodes, c.outer-base.ensures.stores, c.stores-2.ensures) at c.in_ok-take_stores.ensures.taken in
    let k = further-clash c.args.chain.now.nodes c.args.chain.now.stores c.known-known.result part c.in-Some.field-0.left c.in-Some.field-0.right t in
    absurd (k.1.differ (c.requires.consistent.heads k.0 k.1.is_left k.1.is_right))

pub returns-clause-answers : goal.returns-clause-answers
returns-clause-answers c =
    let part = c.known-known.ensures.solved.each c.known-known.result (omega arith) in
    let t = rw (c.in-None.is, c.new.ensures, c.templates-templates.ensures.nodes, c.outer-base.ensures.stores, c.stores-2.ensures) at c.in_ok-take_stores.ensures.taken in
    IfOk-weaker c.evaluate_over-in-None.result _ _ (λ a h. answers-chain c.args.chain.now c.known-known.result c.take_stores.new.form.added _ c.templates-templates.result.now c.args.goal a part t
    (rw (c.in_ok-take_stores.ensures.known, c.outer-base.ensures.stores) refl) c.templates-templates.ensures.nodes c.templates-templates.ensures.symbols h) c.evaluate_over-in-None.ensures.answers

pub returns-clause-end : goal.returns-clause-end
returns-clause-end c =
    let t = rw (c.in-None.is, c.new.ensures, c.templates-templates.ensures.nodes, c.outer-base.ensures.stores, c.stores-2.ensures) at c.in_ok-take_stores.ensures.taken in
    IfOk-weaker c.evaluate_over-in-None.result _ _ (λ a h. waits-chain c.args.chain.now c.known-known.result c.take_stores.new.form.added _ c.templates-templates.result.now.nodes a c.known-known.ensures.known t
    (rw (c.in_ok-take_stores.ensures.known, c.outer-base.ensures.stores) refl) c.templates-templates.ensures.nodes h) c.evaluate_over-in-None.ensures.end
