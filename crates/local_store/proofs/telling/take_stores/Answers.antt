use Rattle.std.proofs.Common.{refl, ◌∙◌}
use Rattle.local_store.proofs.Layers.{takes-none, takes-store, store-clash}
use Rattle.local_store.proofs.EachLeads.{older-store}
use Rattle.local_store.proofs.telling.take_stores.Goals as goal

pub loop-store-init : goal.loop-store-init
loop-store-init g c = (refl, takes-none c.args.templates.now.nodes (g.K.Lookup.bindings c.args.form.now.known.now) c.args.form.now.added c.requires, λ o h. o)

pub returns-in-Some-clause-taken : goal.returns-in-Some-clause-taken
returns-in-Some-clause-taken g c = store-clash c.args.templates.now.nodes (g.K.Lookup.bindings c.args.form.now.known.now) c.args.form.now.added c.loop-store.form.added c.args.stores.now c.loop-store.store-index
    c.store-item.result c.get.result.now c.in-Some.clash.left c.in-Some.clash.right c.loop-store-test.true (c.get.ensures ∙ c.store-item.is) c.loop-store.invariant.1
    (rw (c.in-Some.is, c.loop-store.invariant.0) at c.in_ok-clash.ensures.taken)

pub loop-store-preserved : goal.loop-store-preserved
loop-store-preserved g c = (
  c.take_store.ensures.known ∙ c.loop-store.invariant.0,
  takes-store c.args.templates.now.nodes (g.K.Lookup.bindings c.args.form.now.known.now) c.args.form.now.added c.loop-store.form.added c.take_store.new.form.added c.args.stores.now c.loop-store.store-index
      c.store-item.result c.get.result.now c.loop-store-test.true (c.get.ensures ∙ c.store-item.is) c.loop-store.invariant.1
      (rw (c.in_default.is, c.loop-store.invariant.0) at c.in_ok-clash.ensures.taken),
  older-store c.args.templates.now.nodes (g.K.Lookup.bindings c.args.form.now.known.now) c.args.form.now.added c.loop-store.form.added c.take_store.new.form.added c.args.stores.now c.loop-store.store-index
      c.store-item.result c.get.result.now c.loop-store-test.true (c.get.ensures ∙ c.store-item.is) c.loop-store.invariant.2
      (rw (c.in_default.is, c.loop-store.invariant.0) at c.in_ok-clash.ensures.older),
)
