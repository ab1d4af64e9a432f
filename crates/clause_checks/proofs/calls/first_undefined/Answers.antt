use Rattle.std.proofs.Common.{◌≡◌, ◌<◌, ◌≤◌, length, map, sym, ap, subst, ◌∙◌, arith}
use Rattle.akl_syntax.specs.GoalView.{goal}
use Rattle.akl_syntax.specs.Sizes.{clause_size}
use Rattle.clause_checks.specs.declared.listed.Listed.{Listed}
use Rattle.clause_checks.specs.Tallies.{HasGoals, clause_of}
use Rattle.clause_checks.proofs.GoalSizes.{small_in, small_at}
use Rattle.clause_checks.proofs.calls.first_undefined.Goals as given

pub first_undefined_goal-requires : given.first_undefined_goal-requires
first_undefined_goal-requires c = λ k d h.
    let i = c.loop-clause.clause-index in
    let x : Listed = c.clause-item.result in
    let inside : i < length c.args.listed.now = omega (arith, c.loop-clause-test.true, c.loop-clause.auto.clause-index-end) in
    let has : HasGoals x = subst HasGoals (sym c.clause-item.is) (c.requires.goals i x inside) in
    let small : clause_size (clause_of x) ≤ 1000000 = subst (λ (y : Listed). clause_size (clause_of y) ≤ 1000000) (sym c.clause-item.is) (c.requires.small i x inside) in
    let goals-are : map (λ g. goal g.now) c.deref.result.now ≡ map (λ g. goal g.now) x.goals.items = ap (map (λ g. goal g.now)) c.deref.ensures.value in
    small_at 1000000 (λ g. goal g.now) c.deref.result.now (rw (goals-are ∙ has) (small_in 1000000 (clause_of x) small)) k d h
