use Rattle.std.proofs.Common.{◌≡◌, ◌+◌, suc, ◌++◌, ◌∷◌, [], sym, ◌∙◌, ap, arith}
use Rattle.clause_store.specs.Putting.{numbers_from}
use Rattle.clause_store.proofs.VariableNodes.{numbers_from-more}
use Rattle.clause_store.proofs.variables.numbers_below.Goals as goal

pub loop-number-preserved : goal.loop-number-preserved
loop-number-preserved c =
    let next : suc c.loop-number.number ≡ c.loop-number.number + 1 = omega arith in
    let zero_on : c.loop-number.number ≡ 0 + c.loop-number.number = omega arith in
    c.in_ok-push.ensures.items ∙ ap (λ ns. ns ++ c.loop-number.number ∷ []) c.loop-number.invariant
    ∙ ap (λ n. numbers_from 0 c.loop-number.number ++ n ∷ []) zero_on ∙ sym (numbers_from-more 0 c.loop-number.number) ∙ ap (numbers_from 0) next
