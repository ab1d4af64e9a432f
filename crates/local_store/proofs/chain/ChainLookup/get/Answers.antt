use Rattle.std.proofs.Common.{◌≤◌, ap, sym, ◌∙◌, arith, length}
use Rattle.local_store.specs.Chained.{Chained}
use Rattle.local_store.proofs.Known.{get-found, get-none}
use Rattle.local_store.proofs.chain.ChainLookup.get.Goals as goal

pub returns-in-Some : goal.returns-in-Some
returns-in-Some c = get-found c.args.self.now.stores c.loop-left.left c.index-self-left.result c.get.result.now c.args.variable c.loop-left-test.true c.loop-left.invariant.0 c.loop-left.invariant.1
    (rw (ap (λ (d : Chained). d.stores) c.self.view_is) at c.get.ensures) c.in-Some.term c.in-Some.ensures

pub loop-left-preserved : goal.loop-left-preserved
loop-left-preserved c = (
  let a : c.loop-left.left ≤ length c.args.self.now.stores = c.loop-left.invariant.0 in omega arith,
  get-none c.args.self.now.stores c.loop-left.left c.index-self-left.result c.get.result.now c.args.variable c.loop-left-test.true c.loop-left.invariant.0 c.loop-left.invariant.1
      (rw (ap (λ (d : Chained). d.stores) c.self.view_is) at c.get.ensures) (sym c.first_binding.ensures ∙ c.in_default.is),
)
