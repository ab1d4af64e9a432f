use Rattle.std.proofs.Common.{◌≡◌, ◌≤◌, ℕ, List, length, drop, ap, subst, arith}
use Rattle.std.proofs.lemmas.List.{drop_all}
use Rattle.rational_unify.specs.Known.{found_in}
use Rattle.local_store.specs.Stored.{Stored}
use Rattle.local_store.specs.Chained.{Chained, bindings_from, BindNone}
use Rattle.local_store.proofs.Known.{get-none}
use Rattle.local_store.proofs.chain.Chain.binds_none.Goals as goal

within : (ss : List Stored) → length ss ≤ length ss
within ss = omega arith

pub loop-left-init : goal.loop-left-init
loop-left-init c = (
  rw (ap (λ (d : Chained). d.stores) c.self.view_is) (within c.args.self.now.stores),
  λ x e. ap (λ (ss : List Stored). found_in (bindings_from ss) x) (drop_all (length c.self.inside.stores.now) c.args.self.now.stores (rw (ap (λ (d : Chained). d.stores) c.self.view_is) (within c.args.self.now.stores))),
)

pub loop-left-preserved : goal.loop-left-preserved
loop-left-preserved c = (
  let a : c.loop-left.left ≤ length c.args.self.now.stores = c.loop-left.invariant.0 in omega arith,
  λ x e. get-none c.args.self.now.stores c.loop-left.left c.index-self-left.result c.get.result.now x c.loop-left-test.true c.loop-left.invariant.0 (c.loop-left.invariant.1 x e)
      (rw (ap (λ (d : Chained). d.stores) c.self.view_is) at c.get.ensures) (c.binds_none.ensures c.if-not-binds_none.false x e),
)

pub returns : goal.returns
returns c = λ q. subst (λ (n : ℕ). BindNone (bindings_from (drop n c.args.self.now.stores)) c.args.frame) (let z : c.loop-left.left ≡ 0 = omega (arith, c.loop-left-test.false) in z) c.loop-left.invariant.1
