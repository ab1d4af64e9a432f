use Rattle.std.proofs.Common.{List, [], take, subst, arith}
use Rattle.std.proofs.lemmas.Result.{IfOk-weaker}
use Rattle.akl_terms.specs.Template.{tree}
use Rattle.rational_unify.specs.Forms.{Takes}
use Rattle.local_store.specs.Stored.{Stored}
use Rattle.local_store.specs.Chained.{bindings_from}
use Rattle.local_store.proofs.Known.{drop-whole}
use Rattle.local_store.proofs.Resolved.{further-clash}
use Rattle.class_members.proofs.Enough.{none_listed, are_members, members_unbound}
use Rattle.class_members.proofs.listing.members.Goals as goal

pub returns-in-Some-clause-members : goal.returns-in-Some-clause-members
returns-in-Some-clause-members c =
    let part = c.known-known.ensures.solved.each c.known-known.result (omega arith) in
    let t = rw (c.in-Some.is, c.new.ensures, c.templates-templates.ensures.nodes, c.outer-base.ensures.stores, c.stores-2.ensures) at c.in_ok-take_stores.ensures.taken in
    let k = further-clash c.args.chain.now.nodes c.args.chain.now.stores c.known-known.result part c.in-Some.field-0.left c.in-Some.field-0.right t in
    rw c.new-in-Some.ensures.items (none_listed c.args.chain.now.nodes c.args.chain.now.stores c.args.of.now (tree c.args.chain.now.nodes c.in-Some.field-0.left) (tree c.args.chain.now.nodes c.in-Some.field-0.right) k.0 k.1)

pub returns-clause-members : goal.returns-clause-members
returns-clause-members c =
    let t = rw (c.in-None.is, c.new.ensures, c.templates-templates.ensures.nodes, c.outer-base.ensures.stores, c.stores-2.ensures) at c.in_ok-take_stores.ensures.taken in
    let l = rw (c.templates-templates.ensures.nodes, c.in_ok-take_stores.ensures.known, c.as_slice-in-None.ensures.value, c.in_ok-candidates-in-None.ensures, c.stores-in-None.ensures, c.as_slice.ensures, c.outer-base.ensures.stores) at c.members_among.ensures in
    IfOk-weaker c.members_among.result _ _ (λ list h. are_members c.args.chain.now.nodes c.args.chain.now.stores c.known-known.result c.known-known.ensures.solved c.take_stores.new.form.added
    (subst (λ (ss : List Stored). Takes c.args.chain.now.nodes (bindings_from (take c.known-known.result c.args.chain.now.stores)) [] c.take_stores.new.form.added (bindings_from ss)) (drop-whole c.args.chain.now.stores c.known-known.result) t)
    c.args.of.now list.items h) l

pub returns-clause-unbound : goal.returns-clause-unbound
returns-clause-unbound c =
    let t = rw (c.in-None.is, c.new.ensures, c.templates-templates.ensures.nodes, c.outer-base.ensures.stores, c.stores-2.ensures) at c.in_ok-take_stores.ensures.taken in
    let l = rw (c.templates-templates.ensures.nodes, c.in_ok-take_stores.ensures.known, c.as_slice-in-None.ensures.value, c.in_ok-candidates-in-None.ensures, c.stores-in-None.ensures, c.as_slice.ensures, c.outer-base.ensures.stores) at c.members_among.ensures in
    IfOk-weaker c.members_among.result _ _ (λ list h some y m. members_unbound c.args.chain.now.nodes c.args.chain.now.stores c.known-known.result c.known-known.ensures.solved c.take_stores.new.form.added
    (subst (λ (ss : List Stored). Takes c.args.chain.now.nodes (bindings_from (take c.known-known.result c.args.chain.now.stores)) [] c.take_stores.new.form.added (bindings_from ss)) (drop-whole c.args.chain.now.stores c.known-known.result) t)
    c.args.of.now list.items h (omega (arith, some, c.known-known.ensures.known)) y m) l
