use Rattle.std.proofs.Common.{refl, FitsSigned, rules}
use Rattle.std.specs.Int.{w128}
use Rattle.std.proofs.lemmas.Int.{to_z-of_z}
use Rattle.std.proofs.lemmas.Result.{IfOk-weaker}
use Rattle.arith_goals.specs.Walking.{number, free, other, operation}
use Rattle.arith_goals.proofs.walk.Walk.enter.Goals as goal

pub returns-in-Number : goal.returns-in-Number
returns-in-Number g c =
    let f : FitsSigned w128 c.in-Number.n = search rules in
    rw (to_z-of_z w128 c.in-Number.n f) (number c.in-Number.ensures (record { walking = refl; kept = λ p. refl; begun = refl }))

pub returns-in-Free : goal.returns-in-Free
returns-in-Free g c = free c.in-Free.ensures

pub returns-in-Other : goal.returns-in-Other
returns-in-Other g c = other c.in-Other.ensures

pub returns-in-Apply : goal.returns-in-Apply
returns-in-Apply g c = IfOk-weaker c.begin.result _ _ (λ u b. operation c.in-Apply.ensures b) c.begin.ensures
