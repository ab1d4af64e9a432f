use Rattle.std.proofs.Common.{◌+◌, ◌<◌, ◌∷◌, [], length, drop, refl, sym, ap, ◌∙◌, arith}
use Rattle.akl_lift.proofs.FirstSeen.{one_dropped}
use Rattle.akl_lift.proofs.Slots.{lists_turn, added_end}
use Rattle.akl_lift.proofs.clauses.copied.Goals as goal

pub loop-text-preserved : goal.loop-text-preserved
loop-text-preserved c =
    let within : c.loop-text.text-index < length c.args.texts.now = omega (arith, c.loop-text-test.true, c.loop-text.auto.text-index-end) in
    let left = one_dropped c.args.texts.now c.loop-text.text-index c.text-item.result within c.text-item.is ∙ ap (λ z. z ∷ drop (c.loop-text.text-index + 1) c.args.texts.now) (sym c.in_ok-next.ensures) in
    lists_turn c.loop-text.found.items (c.in_ok-next.next ∷ []) _ _ _ _ c.in_ok-push.ensures.items left c.loop-text.invariant

pub returns : goal.returns
returns c = added_end (λ xs. xs) c.args.texts.now c.loop-text.text-index c.loop-text.found.items _ refl (omega (arith, c.loop-text-test.false, c.loop-text.auto.text-index-end)) c.loop-text.invariant
