use Rattle.std.proofs.Common.{◌<◌, ◌∷◌, [], length, get_or, refl, ap, arith}
use Rattle.std.proofs.lemmas.List.{get_or_default}
use Rattle.variable_scopes.specs.Numbering.{state, Numbered}
use Rattle.variable_scopes.proofs.Numbers.{going_start, going_turn}
use Rattle.variable_scopes.proofs.Lists.{one_spell, one_hold, one_shape, numbers_below, numbers_shaped, numbers_done}
use Rattle.variable_scopes.proofs.terms.numbered_all.Goals as goal

pub loop-spelling-init : goal.loop-spelling-init
loop-spelling-init c = rw c.new-found.ensures.items (going_start one_spell one_hold one_shape _ _ (numbers_below _ _ c.requires))

pub loop-spelling-preserved : goal.loop-spelling-preserved
loop-spelling-preserved c =
    let within : c.loop-spelling.spelling-index < length c.args.spellings.now = omega (arith, c.loop-spelling-test.true, c.loop-spelling.auto.spelling-index-end) in
    let given : Numbered (state c.loop-spelling.numbering) (one_spell (get_or c.args.spellings.now c.loop-spelling.spelling-index 0)) (one_hold c.in_ok-number.number) (state c.number.new.self) =
    record { numbers_are = ap (λ n. n ∷ []) c.in_ok-number.ensures.number; state_is = c.in_ok-number.ensures.state } in
    rw c.in_ok-push.ensures.items
    (going_turn one_spell one_hold one_shape c.args.spellings.now c.loop-spelling.spelling-index (get_or c.args.spellings.now c.loop-spelling.spelling-index 0) c.in_ok-number.number within
    (get_or_default c.args.spellings.now c.loop-spelling.spelling-index 0 _ within) refl given c.loop-spelling.invariant)

pub returns-clause-shape : goal.returns-clause-shape
returns-clause-shape c = numbers_shaped c.args.spellings.now c.loop-spelling.spelling-index (omega (arith, c.loop-spelling-test.false, c.loop-spelling.auto.spelling-index-end)) c.loop-spelling.invariant

pub returns-clause-numbers : goal.returns-clause-numbers
returns-clause-numbers c = numbers_done c.args.spellings.now c.loop-spelling.spelling-index (omega (arith, c.loop-spelling-test.false, c.loop-spelling.auto.spelling-index-end)) c.loop-spelling.invariant
