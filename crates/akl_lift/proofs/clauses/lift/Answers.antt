use Rattle.std.proofs.Common.{◌≡◌, ◌≤◌, ◌*◌, map, sym, subst, arith}
use Rattle.std.proofs.lemmas.Grind.{common_steps}
use Rattle.akl_syntax.specs.Answers.{clause_view, clauses_view}
use Rattle.akl_syntax.specs.Sizes.{clauses_size}
use Rattle.akl_lift.specs.Lifting.{lifted_clauses}
use Rattle.akl_lift.proofs.Programs.{clauses_choices_size}
use Rattle.akl_lift.proofs.Sized.{program_paid}
use Rattle.akl_lift.proofs.clauses.lift.Goals as goal

pub lift_each-requires : goal.lift_each-requires
lift_each-requires c = rw c.deref_mut.ensures.value (omega (arith, clauses_choices_size (map clause_view c.args.clauses.items), c.requires))

pub returns-clause-lifted : goal.returns-clause-lifted
returns-clause-lifted c = grind (arith, common_steps)

pub returns-clause-bound : goal.returns-clause-bound
returns-clause-bound c = λ w.
    let same : clauses_view c.append.new.self ≡ lifted_clauses (clauses_view c.args.clauses) = returns-clause-lifted c in
    subst (λ xs. clauses_size xs ≤ 514 * clauses_size (clauses_view c.args.clauses)) (sym same) (program_paid (clauses_view c.args.clauses) w)
