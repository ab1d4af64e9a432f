use Rattle.std.proofs.Common.{◌≡◌, List, map, refl, sym, subst}
use Rattle.akl_syntax.specs.Goals.{Goal, goals}
use Rattle.akl_syntax.specs.GoalView.{goal}
use Rattle.clause_checks.specs.Refusals.{Answers, parts_refusal, names_refusal, wide_goals_refusal, mixed_goals_refusal, undefined_goals_refusal, goals_refusal}
use Rattle.clause_checks.proofs.Refusing.{exits}
use Rattle.clause_checks.proofs.checks.check_written.Goals as given

pub returns-in_err-few_parts : given.returns-in_err-few_parts
unfolding goals_refusal
returns-in_err-few_parts c =
    let asked = goals (map goal c.args.asked.now) in
    let gs : List Goal = map (λ g. goal g.now) c.args.written.now in
    exits (parts_refusal gs) (goals_refusal c.args.callees.now c.args.variables asked gs) _ _ c.from_residual.ensures.1 c.in_err-few_parts.ensures (λ e f. rw (f) refl)

pub returns-in_err-few_names : given.returns-in_err-few_names
unfolding goals_refusal
returns-in_err-few_names c =
    let asked = goals (map goal c.args.asked.now) in
    let gs : List Goal = map (λ g. goal g.now) c.args.written.now in
    exits (names_refusal c.args.variables) (goals_refusal c.args.callees.now c.args.variables asked gs) _ _ c.from_residual-in_err-few_names.ensures.1 c.in_err-few_names.ensures (λ e f. rw (c.in_ok-few_parts.ensures, f) refl)

pub returns-in_err-no_wide_goal : given.returns-in_err-no_wide_goal
unfolding goals_refusal
returns-in_err-no_wide_goal c =
    let asked = goals (map goal c.args.asked.now) in
    let gs : List Goal = map (λ g. goal g.now) c.args.written.now in
    exits (wide_goals_refusal asked) (goals_refusal c.args.callees.now c.args.variables asked gs) _ _ c.from_residual-in_err-no_wide_goal.ensures.1 c.in_err-no_wide_goal.ensures (λ e f. rw (c.in_ok-few_parts.ensures, c.in_ok-few_names.ensures, f) refl)

pub returns-in_err-no_mixed_goal : given.returns-in_err-no_mixed_goal
unfolding goals_refusal
returns-in_err-no_mixed_goal c =
    let asked = goals (map goal c.args.asked.now) in
    let gs : List Goal = map (λ g. goal g.now) c.args.written.now in
    exits (mixed_goals_refusal gs) (goals_refusal c.args.callees.now c.args.variables asked gs) _ _ c.from_residual-in_err-no_mixed_goal.ensures.1 c.in_err-no_mixed_goal.ensures (λ e f. rw (c.in_ok-few_parts.ensures, c.in_ok-few_names.ensures, c.in_ok-no_wide_goal.ensures, f) refl)

pub returns : given.returns
unfolding goals_refusal
returns c =
    let asked = goals (map goal c.args.asked.now) in
    let gs : List Goal = map (λ g. goal g.now) c.args.written.now in
    let last : goals_refusal c.args.callees.now c.args.variables asked gs ≡ undefined_goals_refusal c.args.callees.now gs = rw (c.in_ok-few_parts.ensures, c.in_ok-few_names.ensures, c.in_ok-no_wide_goal.ensures, c.in_ok-no_mixed_goal.ensures) refl in
    subst (λ o. Answers o c.none_undefined.result) (sym last) (rw c.first_undefined_goal.ensures.found at c.none_undefined.ensures)
