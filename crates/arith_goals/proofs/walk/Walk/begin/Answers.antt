use Rattle.std.proofs.Common.{refl, sym, FitsSigned, rules, arith}
use Rattle.std.specs.Int.{w128}
use Rattle.std.proofs.lemmas.Int.{to_z-of_z}
use Rattle.arith_goals.specs.Walking.{known, inside_itself, begins}
use Rattle.arith_goals.proofs.walk.Walk.begin.Goals as goal

pub returns-in-Value : goal.returns-in-Value
returns-in-Value c =
    let f : FitsSigned w128 c.in-Value.value = search rules in
    rw (to_z-of_z w128 c.in-Value.value f) (known (sym c.in-Value.ensures) (record { walking = refl; kept = λ p. refl; begun = refl }))

pub returns-in-Begun : goal.returns-in-Begun
returns-in-Begun c = inside_itself (sym c.in-Begun.ensures)

pub returns-in_ok-push-in-Ahead : goal.returns-in_ok-push-in-Ahead
returns-in_ok-push-in-Ahead c = begins (sym c.in-Ahead.ensures) (rw c.in_ok-keep-in-Ahead.ensures.walking at c.in_ok-push-in-Ahead.ensures.items) (λ p. c.in_ok-keep-in-Ahead.ensures.kept p)
    (omega (arith, c.in_ok-self-in-Ahead.ensures.next, c.in_ok-keep-in-Ahead.ensures.begun)) (omega (arith, c.in_ok-self-in-Ahead.ensures.small, c.in_ok-keep-in-Ahead.ensures.begun))
