use Rattle.std.proofs.Common.{◌≡◌, length, map, ap, ◌∙◌, arith}
use Rattle.akl_syntax.specs.Goals.{goals}
use Rattle.akl_syntax.specs.GoalView.{goal}
use Rattle.akl_syntax.specs.Answers.{query_view}
use Rattle.clause_keys.specs.Keys.{called_by}
use Rattle.clause_checks.specs.Within.{goals_asked}
use Rattle.clause_checks.specs.Refusals.{query_refusal_of}
use Rattle.clause_checks.proofs.GoalSizes.{small_asked, small_at}
use Rattle.clause_checks.proofs.Accepting.{plain_loadable, query_accepted, checked_query, on_ok}
use Rattle.clause_checks.proofs.checks.check_goals.Goals as given

pub check_written-requires : given.check_written-requires
check_written-requires c =
    let seen : map (λ g. goal g.now) c.as_slice-2.result.now ≡ goals_asked (query_view c.args.query.now) = ap (map (λ g. goal g.now)) c.as_slice-2.ensures.value ∙ c.in_ok-written.ensures in
    small_at 1000000 (λ g. goal g.now) c.as_slice-2.result.now (rw seen (small_asked 1000000 (query_view c.args.query.now) c.requires))

pub returns-clause-checked : given.returns-clause-checked
returns-clause-checked c =
    let seen : map (λ g. goal g.now) c.as_slice-2.result.now ≡ goals_asked (query_view c.args.query.now) = ap (map (λ g. goal g.now)) c.as_slice-2.ensures.value ∙ c.in_ok-written.ensures in
    let names : c.len.result ≡ length c.args.query.now.names.items = omega arith in
    let checked = checked_query c.args.program.now (query_view c.args.query.now) _ _ _ _ c.check_written.result (rw c.as_slice.ensures at c.in_ok-callees.ensures) names (ap (λ xs. goals (map goal xs)) c.deref.ensures.value) seen c.check_written.ensures in
    checked

pub returns-clause-accepted : given.returns-clause-accepted
returns-clause-accepted c =
    let seen : map (λ g. goal g.now) c.as_slice-2.result.now ≡ goals_asked (query_view c.args.query.now) = ap (map (λ g. goal g.now)) c.as_slice-2.ensures.value ∙ c.in_ok-written.ensures in
    let names : c.len.result ≡ length c.args.query.now.names.items = omega arith in
    let checked = checked_query c.args.program.now (query_view c.args.query.now) _ _ _ _ c.check_written.result (rw c.as_slice.ensures at c.in_ok-callees.ensures) names (ap (λ xs. goals (map goal xs)) c.deref.ensures.value) seen c.check_written.ensures in
    on_ok (query_refusal_of c.args.program.now (query_view c.args.query.now)) c.check_written.result checked (query_accepted c.args.program.now (query_view c.args.query.now))

pub returns-clause-loadable : given.returns-clause-loadable
returns-clause-loadable c =
    let seen : map (λ g. goal g.now) c.as_slice-2.result.now ≡ goals_asked (query_view c.args.query.now) = ap (map (λ g. goal g.now)) c.as_slice-2.ensures.value ∙ c.in_ok-written.ensures in
    let names : c.len.result ≡ length c.args.query.now.names.items = omega arith in
    let checked = checked_query c.args.program.now (query_view c.args.query.now) _ _ _ _ c.check_written.result (rw c.as_slice.ensures at c.in_ok-callees.ensures) names (ap (λ xs. goals (map goal xs)) c.deref.ensures.value) seen c.check_written.ensures in
    on_ok (query_refusal_of c.args.program.now (query_view c.args.query.now)) c.check_written.result checked (λ e h. plain_loadable (map called_by c.args.program.now.definitions) (query_view c.args.query.now).goals h (query_accepted c.args.program.now (query_view c.args.query.now) e).liftable)

pub returns-clause-few : given.returns-clause-few
returns-clause-few c =
    let seen : map (λ g. goal g.now) c.as_slice-2.result.now ≡ goals_asked (query_view c.args.query.now) = ap (map (λ g. goal g.now)) c.as_slice-2.ensures.value ∙ c.in_ok-written.ensures in
    let names : c.len.result ≡ length c.args.query.now.names.items = omega arith in
    let checked = checked_query c.args.program.now (query_view c.args.query.now) _ _ _ _ c.check_written.result (rw c.as_slice.ensures at c.in_ok-callees.ensures) names (ap (λ xs. goals (map goal xs)) c.deref.ensures.value) seen c.check_written.ensures in
    on_ok (query_refusal_of c.args.program.now (query_view c.args.query.now)) c.check_written.result checked (λ e. (query_accepted c.args.program.now (query_view c.args.query.now) e).few)
