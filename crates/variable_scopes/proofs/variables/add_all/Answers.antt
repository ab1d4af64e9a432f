use Rattle.std.proofs.Common.{◌<◌, ◌∷◌, [], length, get_or, refl, arith}
use Rattle.std.proofs.lemmas.List.{drop_more}
use Rattle.variable_scopes.proofs.Turns.{lists_turn, added_end}
use Rattle.variable_scopes.proofs.variables.add_all.Goals as goal

pub loop-number-preserved : goal.loop-number-preserved
loop-number-preserved c =
    let within : c.loop-number.number-index < length c.args.numbers.now = omega (arith, c.loop-number-test.true, c.loop-number.auto.number-index-end) in
    lists_turn c.loop-number.found.items (get_or c.args.numbers.now c.loop-number.number-index 0 ∷ []) _ _ _ _ c.in_ok-push.ensures.items (drop_more c.args.numbers.now c.loop-number.number-index 0 within) c.loop-number.invariant

pub returns : goal.returns
returns c = added_end (λ xs. xs) c.args.numbers.now c.loop-number.number-index c.loop-number.found.items _ refl (omega (arith, c.loop-number-test.false, c.loop-number.auto.number-index-end)) c.loop-number.invariant
