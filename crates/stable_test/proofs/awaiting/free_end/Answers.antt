use Rattle.std.proofs.Common.{◌++◌, take, sym, ◌∙◌, arith}
use Rattle.local_store.specs.Chained.{bindings_from}
use Rattle.rational_unify.specs.Solving.{bindings_in}
use Rattle.local_store.proofs.Resolved.{further-clash}
use Rattle.stable_test.proofs.FreeEnds.{form_taken, end_free, end_headed}
use Rattle.stable_test.proofs.awaiting.free_end.Goals as goal

pub returns-in-Some : goal.returns-in-Some
returns-in-Some c =
    let part = c.known-known.ensures.solved.each c.known-known.result (omega arith) in
    let t = rw (c.in-Some.is, c.new.ensures, c.templates-templates.ensures.nodes, c.outer-base.ensures.stores, c.stores.ensures) at c.in_ok-take_stores.ensures.taken in
    let k = further-clash c.args.chain.now.nodes c.args.chain.now.stores c.known-known.result part c.in-Some.field-0.left c.in-Some.field-0.right t in
    absurd (k.1.differ (c.requires.heads k.0 k.1.is_left k.1.is_right))

pub returns-in-Free : goal.returns-in-Free
returns-in-Free c =
    let part = c.known-known.ensures.solved.each c.known-known.result (omega arith) in
    let t = rw (c.in-None.is, c.new.ensures, c.templates-templates.ensures.nodes, c.outer-base.ensures.stores, c.stores.ensures) at c.in_ok-take_stores.ensures.taken in
    let e = rw (c.templates-templates.ensures.nodes, c.in_ok-take_stores.ensures.known, c.outer-base.ensures.stores) at c.chain_end.ensures in
    let s = rw c.templates-templates.ensures.nodes at c.look.ensures.seen in
    end_free c.args.chain.now.nodes (bindings_from (take c.known-known.result c.args.chain.now.stores) ++ c.take_stores.new.form.added) (bindings_in c.args.chain.now.nodes (bindings_from c.args.chain.now.stores))
    (form_taken c.args.chain.now.nodes c.args.chain.now.stores c.known-known.result c.take_stores.new.form.added part t) c.args.term c.chain_end.result e c.in-Free.on (sym c.in-Free.is ∙ s)

pub returns : goal.returns
returns c =
    let part = c.known-known.ensures.solved.each c.known-known.result (omega arith) in
    let t = rw (c.in-None.is, c.new.ensures, c.templates-templates.ensures.nodes, c.outer-base.ensures.stores, c.stores.ensures) at c.in_ok-take_stores.ensures.taken in
    let e = rw (c.templates-templates.ensures.nodes, c.in_ok-take_stores.ensures.known, c.outer-base.ensures.stores) at c.chain_end.ensures in
    let s = rw c.templates-templates.ensures.nodes at c.look.ensures.seen in
    end_headed c.args.chain.now.nodes (bindings_from (take c.known-known.result c.args.chain.now.stores) ++ c.take_stores.new.form.added) (bindings_in c.args.chain.now.nodes (bindings_from c.args.chain.now.stores))
    (form_taken c.args.chain.now.nodes c.args.chain.now.stores c.known-known.result c.take_stores.new.form.added part t) c.args.term c.chain_end.result e c.look.result s (λ x k. c.in_default.not-Free x k)
