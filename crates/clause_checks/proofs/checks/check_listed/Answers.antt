use Rattle.std.proofs.Common.{◌≡◌, List, map, refl, sym, subst}
use Rattle.akl_syntax.specs.Clauses.{Clause}
use Rattle.clause_keys.specs.Keys.{defined_by}
use Rattle.clause_checks.specs.Refusals.{Answers, crowded_refusal, variables_refusal, wide_refusal, reserved_refusal, mixed_refusal, undefined_refusal, refusal_of_few}
use Rattle.clause_checks.specs.Tallies.{clause_of}
use Rattle.clause_checks.proofs.Refusing.{exits}
use Rattle.clause_checks.proofs.Undefined.{last_answered}
use Rattle.clause_checks.proofs.checks.check_listed.Goals as goal

pub returns-in_err-none_crowded-clause-checked : goal.returns-in_err-none_crowded-clause-checked
unfolding refusal_of_few
returns-in_err-none_crowded-clause-checked c =
    let cs : List Clause = map clause_of c.args.listed.now in
    exits (crowded_refusal cs) (refusal_of_few cs) _ _ c.from_residual.ensures.1 c.in_err-none_crowded.ensures (λ e f. rw (f) refl)

pub returns-in_err-few_variables-clause-checked : goal.returns-in_err-few_variables-clause-checked
unfolding refusal_of_few
returns-in_err-few_variables-clause-checked c =
    let cs : List Clause = map clause_of c.args.listed.now in
    exits (variables_refusal cs) (refusal_of_few cs) _ _ c.from_residual-in_err-few_variables.ensures.1 c.in_err-few_variables.ensures (λ e f. rw (c.in_ok-none_crowded.ensures, f) refl)

pub returns-in_err-none_wide-clause-checked : goal.returns-in_err-none_wide-clause-checked
unfolding refusal_of_few
returns-in_err-none_wide-clause-checked c =
    let cs : List Clause = map clause_of c.args.listed.now in
    exits (wide_refusal cs) (refusal_of_few cs) _ _ c.from_residual-in_err-none_wide.ensures.1 c.in_err-none_wide.ensures (λ e f. rw (c.in_ok-none_crowded.ensures, c.in_ok-few_variables.ensures, f) refl)

pub returns-in_err-none_reserved-clause-checked : goal.returns-in_err-none_reserved-clause-checked
unfolding refusal_of_few
returns-in_err-none_reserved-clause-checked c =
    let cs : List Clause = map clause_of c.args.listed.now in
    exits (reserved_refusal cs) (refusal_of_few cs) _ _ c.from_residual-in_err-none_reserved.ensures.1 c.in_err-none_reserved.ensures (λ e f. rw (c.in_ok-none_crowded.ensures, c.in_ok-few_variables.ensures, c.in_ok-none_wide.ensures, f) refl)

pub returns-in_err-none_mixed-clause-checked : goal.returns-in_err-none_mixed-clause-checked
unfolding refusal_of_few
returns-in_err-none_mixed-clause-checked c =
    let cs : List Clause = map clause_of c.args.listed.now in
    exits (mixed_refusal cs) (refusal_of_few cs) _ _ c.from_residual-in_err-none_mixed.ensures.1 c.in_err-none_mixed.ensures.checked (λ e f. rw (c.in_ok-none_crowded.ensures, c.in_ok-few_variables.ensures, c.in_ok-none_wide.ensures, c.in_ok-none_reserved.ensures, f) refl)

pub returns-clause-checked : goal.returns-clause-checked
unfolding refusal_of_few
returns-clause-checked c =
    let cs : List Clause = map clause_of c.args.listed.now in
    let last : refusal_of_few cs ≡ undefined_refusal (map defined_by cs) cs = rw (c.in_ok-none_crowded.ensures, c.in_ok-few_variables.ensures, c.in_ok-none_wide.ensures, c.in_ok-none_reserved.ensures, c.in_ok-none_mixed.ensures.checked) refl in
    subst (λ o. Answers o c.none_undefined.result) (sym last) (last_answered c.args.callees.now cs _ _ c.requires.callees c.first_undefined.ensures.found c.none_undefined.ensures)
