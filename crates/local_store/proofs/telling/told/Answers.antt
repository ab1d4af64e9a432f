use Rattle.std.proofs.Common.{refl, sym, ◌∙◌, ap, length, arith}
use Rattle.local_store.specs.Chained.{innermost}
use Rattle.local_store.specs.Parts.{told_over}
use Rattle.local_store.proofs.Known.{whole-known}
use Rattle.local_store.proofs.Replaced.{answers-whole, answers-further}
use Rattle.local_store.proofs.telling.told.Goals as goal

pub tell-requires-clause-solved : goal.tell-requires-clause-solved
tell-requires-clause-solved c = rw c.templates-templates.ensures.nodes
    (whole-known c.args.chain.now.nodes c.args.chain.now.stores c.known-known.result c.known-known.ensures.solved (c.if-known-stores.true ∙ ap length c.stores-stores.ensures)).form.solved

pub returns-then-known-stores-clause-told : goal.returns-then-known-stores-clause-told
returns-then-known-stores-clause-told c =
    let solved = whole-known c.args.chain.now.nodes c.args.chain.now.stores c.known-known.result c.known-known.ensures.solved (c.if-known-stores.true ∙ ap length c.stores-stores.ensures) in
    let all = sym (sym c.known-known.ensures.known ∙ c.if-known-stores.true ∙ ap length c.stores-stores.ensures) in
    let adds = rw (c.templates-templates.ensures.nodes, c.new-told.ensures.empty (innermost c.args.chain.now.stores)) at (c.in_ok-tell.ensures.adds (innermost c.args.chain.now.stores)) in
    answers-whole c.args.chain.now.nodes c.args.chain.now.stores c.args.chain.now.known c.args.equations.now (told_over (innermost c.args.chain.now.stores) c.tell.new.told) solved all adds

pub returns-clause-told : goal.returns-clause-told
returns-clause-told c =
    let adds = rw (c.templates-templates.ensures.nodes, c.outer-base.ensures.stores, c.stores-stores.ensures, c.new-told.ensures.empty (innermost c.args.chain.now.stores)) at (c.in_ok-tell_over.ensures.adds (innermost c.args.chain.now.stores)) in
    answers-further c.args.chain.now.nodes c.args.chain.now.stores c.args.chain.now.known c.known-known.result c.args.equations.now (c.known-known.ensures.solved.each c.known-known.result (omega arith))
    c.known-known.ensures.known (λ e. c.if-known-stores.false (c.known-known.ensures.known ∙ sym e ∙ ap length (sym c.stores-stores.ensures))) _ refl adds
