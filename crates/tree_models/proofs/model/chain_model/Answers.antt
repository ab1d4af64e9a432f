use Rattle.std.proofs.Common.{arith}
use Rattle.std.proofs.lemmas.Result.{IfOk-weaker}
use Rattle.local_store.specs.Chained.{equations_of}
use Rattle.answer_text.proofs.FormEnds.{form_represents}
use Rattle.chain_text.proofs.FormTexts.{further-form, no-clash}
use Rattle.tree_models.proofs.model.chain_model.Goals as goal

pub unreachable-requires : goal.unreachable-requires
unreachable-requires c =
    let part = c.known-known.ensures.solved.each c.known-known.result (omega arith) in
    let t = rw (c.in-Some.is, c.new.ensures, c.templates-templates.ensures.nodes, c.outer-base.ensures.stores, c.stores.ensures) at c.in_ok-take_stores.ensures.taken in
    no-clash c.args.chain.now.nodes c.args.chain.now.stores c.known-known.result part c.in-Some.field-0.left c.in-Some.field-0.right c.requires t

pub returns : goal.returns
returns c =
    let nodes = c.args.chain.now.nodes in
    let stores = c.args.chain.now.stores in
    let part = c.known-known.ensures.solved.each c.known-known.result (omega arith) in
    let t = rw (c.in-None.is, c.new.ensures, c.templates-templates.ensures.nodes, c.outer-base.ensures.stores, c.stores.ensures) at c.in_ok-take_stores.ensures.taken in
    let form = further-form nodes stores c.known-known.result part c.take_stores.new.form.added t in
    IfOk-weaker c.form_model.result _ _ (λ m u. u (equations_of nodes stores) (form_represents nodes _ (equations_of nodes stores) form))
    (rw (c.templates-templates.ensures.nodes, c.in_ok-take_stores.ensures.known, c.outer-base.ensures.stores) at c.form_model.ensures)
