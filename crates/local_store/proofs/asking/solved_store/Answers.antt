use Rattle.std.proofs.Common.{◌∙◌}
use Rattle.std.proofs.lemmas.Result.{IfOk-weaker}
use Rattle.local_store.proofs.Resolved.{around-take, resolves, inner-no-clash}
use Rattle.local_store.proofs.asking.solved_store.Goals as goal

pub resolved-requires-clause-solved : goal.resolved-requires-clause-solved
resolved-requires-clause-solved c = rw (c.templates.ensures.nodes, c.outer-outer.ensures.stores, c.saturating_sub.ensures, c.stores-stores.ensures, around-take c.args.chain.now.stores) c.requires.around.solved

pub resolved-requires-clause-consistent : goal.resolved-requires-clause-consistent
resolved-requires-clause-consistent c =
    rw (c.templates.ensures.nodes, c.outer-outer.ensures.stores, c.saturating_sub.ensures, c.in_ok-store.ensures, c.stores-stores.ensures, around-take c.args.chain.now.stores)
    (λ left right k. inner-no-clash c.args.chain.now.nodes c.args.chain.now.stores c.requires.around left right c.requires.consistent k)

pub returns : goal.returns
returns c =
    let r = rw (c.templates.ensures.nodes, c.outer-outer.ensures.stores, c.saturating_sub.ensures, c.in_ok-store.ensures, c.stores-stores.ensures, around-take c.args.chain.now.stores) at c.in_ok-store-2.ensures in
    IfOk-weaker c.new.result _ _ (λ s e. resolves c.args.chain.now.nodes c.args.chain.now.stores c.requires.around r.more s r.takes (e ∙ r.is)) c.new.ensures
