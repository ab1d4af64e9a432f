use Rattle.std.proofs.Common.{◌∙◌, refl, arith}
use Rattle.local_store.specs.Chained.{innermost, around}
use Rattle.local_store.specs.Parts.{told_over}
use Rattle.body_goals.proofs.InOrder.{begins, next, all}
use Rattle.body_goals.proofs.body.reduce.Goals as goal

pub loop-code-init : goal.loop-code-init
loop-code-init c = (
  begins c.args.templates.now.symbols c.args.templates.now.nodes (around c.args.stores.now) c.args.frame c.args.first c.args.codes.now (told_over (innermost c.args.stores.now) c.args.told.now) c.args.labels.now.items _
      c.in_ok-with_capacity.ensures.items refl refl c.requires.solved,
  omega arith,
  refl,
)

pub loop-code-preserved : goal.loop-code-preserved
loop-code-preserved c =
    let own = innermost c.args.stores.now in
    let further = next c.args.templates.now.symbols c.args.templates.now.nodes (around c.args.stores.now) c.args.frame c.args.first c.args.codes.now (told_over own c.args.told.now) c.args.labels.now.items
    (told_over own c.loop-code.told) c.loop-code.labels.items c.loop-code.body c.loop-code.number c.loop-code.code-index c.loop-code-test.true c.loop-code.invariant.0 c.loop-code.invariant.1 _
    (told_over own c.take_goal.new.told) c.take_goal.new.labels.items c.take_goal.new.body (rw c.new-chain.ensures at c.in_ok-take_goal.ensures.goes_on) in
    (further.0, further.1, c.take_goal.ensures.frames ∙ c.loop-code.invariant.2)

pub returns-clause-reduced : goal.returns-clause-reduced
returns-clause-reduced c =
    let own = innermost c.args.stores.now in
    all c.args.templates.now.symbols c.args.templates.now.nodes (around c.args.stores.now) c.args.frame c.args.first c.args.codes.now (told_over own c.args.told.now) c.args.labels.now.items
    (told_over own c.loop-code.told) c.loop-code.labels.items c.loop-code.body c.loop-code.number c.loop-code.code-index (omega (arith, c.loop-code-test.false)) c.loop-code.invariant.0
