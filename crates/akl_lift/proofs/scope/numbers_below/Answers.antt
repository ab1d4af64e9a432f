use Rattle.std.proofs.Common.{◌≡◌, ◌+◌, suc, ◌++◌, ◌∷◌, [], length, sym, ◌∙◌, ap, arith}
use Rattle.akl_lift.specs.Lifting.{numbers_from}
use Rattle.akl_lift.proofs.Loops.{numbers_from-more}
use Rattle.akl_lift.proofs.Below.{length-numbers}
use Rattle.akl_lift.proofs.scope.numbers_below.Goals as goal

pub loop-number-preserved : goal.loop-number-preserved
loop-number-preserved c =
    let next : suc c.loop-number.number ≡ c.loop-number.number + 1 = omega arith in
    let zero_on : c.loop-number.number ≡ 0 + c.loop-number.number = omega arith in
    c.in_ok-push.ensures.items ∙ ap (λ ns. ns ++ c.loop-number.number ∷ []) c.loop-number.invariant
    ∙ ap (λ n. numbers_from 0 c.loop-number.number ++ n ∷ []) zero_on ∙ sym (numbers_from-more 0 c.loop-number.number) ∙ ap (numbers_from 0) next

pub returns-clause-few : goal.returns-clause-few
returns-clause-few c = omega (arith, ap length c.loop-number.invariant, length-numbers 0 c.loop-number.number)
