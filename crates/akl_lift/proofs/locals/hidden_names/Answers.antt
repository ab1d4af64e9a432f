use Rattle.std.proofs.Common.{◌<◌, ◌++◌, ◌∷◌, [], length, refl, ap, ◌∙◌, arith}
use Rattle.akl_lift.specs.Lifting.{hidden_from}
use Rattle.akl_lift.proofs.Hiding.{hidden_turn}
use Rattle.akl_lift.proofs.Slots.{added_end}
use Rattle.akl_lift.proofs.locals.hidden_names.Goals as given

pub loop-index-preserved : given.loop-index-preserved
loop-index-preserved c =
    let within : c.loop-index.index < length c.args.names.now = omega (arith, c.loop-index-test.true, c.loop-index.auto.index-end) in
    hidden_turn c.args.locals.now c.args.names.now c.loop-index.found.items c.push.new.self.items c.loop-index.index c.index-names-index.result within c.index-names-index.is (c.in_ok-push.ensures.items ∙ ap (λ z. c.loop-index.found.items ++ z ∷ []) c.in_ok-next.ensures) c.loop-index.invariant

pub returns : given.returns
returns c = added_end (λ xs. hidden_from c.args.locals.now c.loop-index.index xs) c.args.names.now c.loop-index.index c.loop-index.found.items _ refl (omega (arith, c.loop-index-test.false, c.loop-index.auto.index-end)) c.loop-index.invariant
