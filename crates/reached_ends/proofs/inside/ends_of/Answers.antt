use Rattle.std.proofs.Common.{◌≡◌, ℕ, suc, ◌+◌, [], take, refl, ◌∙◌, subst, arith}
use Rattle.std.specs.List.{AllByRecursion}
use Rattle.local_store.specs.Stored.{Stored}
use Rattle.reached_ends.specs.Reached.{AreBoundOver}
use Rattle.reached_ends.specs.Leading.{StandsInBindings, StandsInStores}
use Rattle.reached_ends.specs.Walks.{state_of, ComesFrom}
use Rattle.reached_ends.proofs.Going.{goes_on, stores_more, stores_next, reached_all}
use Rattle.reached_ends.proofs.Coming.{from_on, from_more, stored_at}
use Rattle.reached_ends.proofs.inside.ends_of.Goals as goal

pub loop-store-preserved : goal.loop-store-preserved
loop-store-preserved c =
    let nodes = c.args.templates.now.nodes in
    let root = c.args.root.now.bindings in
    let inner = c.args.inner.now in
    let i = c.loop-store.store-index in
    let now = c.take_store.new.walk in
    let goes = c.in_ok-take_store.ensures.goes c.if-not-branch.false in
    let next : suc i ≡ i + 1 = omega arith in
    let bound = subst (λ (s : Stored). AreBoundOver nodes now.reached.items s.bindings) (c.get.ensures ∙ c.store-item.is) (c.in_ok-take_store.ensures.bound c.if-not-branch.false) in (
      goes_on nodes root (record { reached = []; ends = []; waiting = [] }) (state_of c.loop-store.walk) (state_of now) c.loop-store.invariant.0 goes,
      c.in_ok-take_store.ensures.all c.if-not-branch.false,
      subst (λ (n : ℕ). AllByRecursion (λ (s : Stored). AreBoundOver nodes now.reached.items s.bindings) (take n inner)) next
          (stores_next nodes now.reached.items inner i _ c.loop-store-test.true
          (stores_more nodes c.loop-store.walk.reached.items now.reached.items (λ x m. goes.reached x m) (take i inner) c.loop-store.invariant.2) bound),
      from_on nodes root (StandsInStores nodes inner) (record { reached = []; ends = []; waiting = [] }) (state_of c.loop-store.walk) (state_of now) c.loop-store.invariant.3
          (from_more nodes root _ (StandsInStores nodes inner) (state_of c.loop-store.walk) (state_of now) (λ x s. stored_at nodes inner i _ c.loop-store-test.true x s)
          (subst (λ (s : Stored). ComesFrom nodes root (StandsInBindings nodes s.bindings) (state_of c.loop-store.walk) (state_of now)) (c.get.ensures ∙ c.store-item.is) (c.in_ok-take_store.ensures.from c.if-not-branch.false))),
    )

pub returns : goal.returns
returns c = reached_all c.args.templates.now.nodes c.args.root.now c.args.inner.now (record { reached = []; ends = []; waiting = [] }) (state_of c.loop-store.walk) c.loop-store.store-index refl refl refl
    c.loop-store.invariant.0 c.loop-store.invariant.3 c.loop-store.invariant.1 c.loop-store-test.false c.loop-store.invariant.2
