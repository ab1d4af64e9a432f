use Rattle.std.proofs.Common.{refl, subst, arith}
use Rattle.reached_ends.specs.Walks.{state_of}
use Rattle.reached_ends.proofs.Going.{Spreads, spreads_more, spread_comes}
use Rattle.reached_ends.proofs.Coming.{from_before, spread_from}
use Rattle.reached_ends.proofs.walk.Walk.spread.Goals as goal

pub loop-index-preserved : goal.loop-index-preserved
loop-index-preserved c = spreads_more c.args.self.now c.loop-index.self _ c.args.first c.args.count c.args.frame c.loop-index.index c.in_ok-node.node c.loop-index.invariant c.in_ok-node.ensures refl refl c.in_ok-push.ensures.items refl

pub returns-clause-comes : goal.returns-clause-comes
returns-clause-comes c = λ t nodes x s. spread_comes c.args.self.now c.loop-index.self c.args.first c.args.count c.args.frame
    (subst (Spreads c.args.self.now c.loop-index.self c.args.first c.args.count c.args.frame) (omega arith) c.loop-index.invariant) nodes x s

pub returns-clause-from : goal.returns-clause-from
returns-clause-from c = λ nodes bindings. spread_from c.args.self.now c.loop-index.self c.args.first c.args.count c.args.frame
    (subst (Spreads c.args.self.now c.loop-index.self c.args.first c.args.count c.args.frame) (omega arith) c.loop-index.invariant) nodes bindings

pub returns-then-places-self-clause-from : goal.returns-then-places-self-clause-from
returns-then-places-self-clause-from c = λ nodes bindings. from_before nodes bindings _ (state_of c.args.self.now) (state_of c.args.self.now) (λ x k. k)
