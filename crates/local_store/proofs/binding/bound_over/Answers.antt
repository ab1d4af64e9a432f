use Rattle.std.proofs.Common.{[], subst, arith, take}
use Rattle.std.specs.Prelude.{List}
use Rattle.std.proofs.lemmas.Result.{IfOk-weaker}
use Rattle.local_store.specs.Stored.{Stored}
use Rattle.local_store.specs.Chained.{bindings_from}
use Rattle.rational_unify.specs.Forms.{Takes}
use Rattle.local_store.proofs.Known.{drop-whole}
use Rattle.local_store.proofs.Layers.{chain-form}
use Rattle.local_store.proofs.Joining.{binds-more, clash-more-bound}
use Rattle.local_store.proofs.Resolved.{further-clash}
use Rattle.local_store.proofs.binding.bound_over.Goals as goal

pub returns-in-Some : goal.returns-in-Some
returns-in-Some c =
    let part = c.known-known.ensures.solved.each c.known-known.result (omega arith) in
    let t = rw (c.in-Some.is, c.new.ensures, c.templates-templates.ensures.nodes, c.outer-base.ensures.stores, c.stores.ensures) at c.in_ok-take_stores.ensures.taken in
    let k = further-clash c.args.chain.now.nodes c.args.chain.now.stores c.known-known.result part c.in-Some.field-0.left c.in-Some.field-0.right t in
    rw c.requires (clash-more-bound c.args.chain.now.nodes (bindings_from c.args.chain.now.stores) c.args.bindings.now c.in-Some.field-0.left c.in-Some.field-0.right k.0 k.1)

pub returns : goal.returns
returns c =
    let part = c.known-known.ensures.solved.each c.known-known.result (omega arith) in
    let t = rw (c.in-None.is, c.new.ensures, c.templates-templates.ensures.nodes, c.outer-base.ensures.stores, c.stores.ensures) at c.in_ok-take_stores.ensures.taken in
    let l = rw (c.templates-templates.ensures.nodes, c.in_ok-take_stores.ensures.known, c.outer-base.ensures.stores) at c.binds_over.ensures in
    IfOk-weaker c.binds_over.result _ _ (λ z h. binds-more c.args.chain.now.nodes _ (bindings_from c.args.chain.now.stores) c.args.bindings.now
    (chain-form c.args.chain.now.nodes c.args.chain.now.stores c.known-known.result (bindings_from (take c.known-known.result c.args.chain.now.stores)) c.take_stores.new.form.added part.form
    (subst (λ (ss : List Stored). Takes c.args.chain.now.nodes (bindings_from (take c.known-known.result c.args.chain.now.stores)) [] c.take_stores.new.form.added (bindings_from ss))
    (drop-whole c.args.chain.now.stores c.known-known.result) t)) c.binds_over.new.list.items h) l
