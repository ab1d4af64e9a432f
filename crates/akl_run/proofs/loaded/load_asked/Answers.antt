use Rattle.std.specs.List.{All}
use Rattle.std.proofs.Common.{◌+◌, ◌++◌, ◌*◌, ◌≤◌, length, map, sym, subst, arith}
use Rattle.akl_syntax.specs.Answers.{query_view, clauses_view}
use Rattle.akl_syntax.specs.Clauses.{Query}
use Rattle.akl_syntax.specs.Sizes.{clauses_size, query_size}
use Rattle.clause_keys.specs.Keys.{called_by, defined_by}
use Rattle.clause_keys.specs.Conditions.{IsLoadable}
use Rattle.clause_store.specs.Loaded.{IsQueryOf}
use Rattle.akl_lift.specs.Lifting.{query_without, made_of_query}
use Rattle.akl_lift.proofs.Asked.{query_paid, query_unmixed}
use Rattle.akl_run.specs.Loads.{first_asked, IsQueryText, QueryStops, no_memory}
use Rattle.akl_run.proofs.Loading.{stops_as, from_error, query_text_stops, query_loading_stops}
use Rattle.akl_run.proofs.ReadTexts.{as_query, query_small, query_whole, query_numbered}
use Rattle.akl_run.proofs.Lifted.{asked_loads, asked_alone, asked_few, has_variables, asked_new}
use Rattle.akl_run.proofs.loaded.load_asked.Goals as goal

pub returns-in-Err-clause-stop : goal.returns-in-Err-clause-stop
returns-in-Err-clause-stop c = query_text_stops c.args.program c.args.text.now c.in-Err.error c.text.result c.in-Err.ensures.reads c.text.ensures

pub returns-in_err-asked-clause-stop : goal.returns-in_err-asked-clause-stop
returns-in_err-asked-clause-stop c = from_error c.from_residual.result c.from_residual.ensures.1 (λ stop p. stops_as (QueryStops c.args.program c.args.text.now) _ _ stop p no_memory)

pub check_goals-requires : goal.check_goals-requires
check_goals-requires c = omega (arith, query_small (as_query c.in-Ok.ensures.reads c.in_ok-asked.ensures), c.requires.short)

pub returns-in-Err-check_goals-clause-stop : goal.returns-in-Err-check_goals-clause-stop
returns-in-Err-check_goals-clause-stop c =
    query_loading_stops c.args.program c.args.text.now (query_view c.in_ok-asked.asked) c.in-Err-check_goals.error c.loading.result (as_query c.in-Ok.ensures.reads c.in_ok-asked.ensures) c.in-Err-check_goals.ensures.checked c.loading.ensures

pub lift_query-requires : goal.lift_query-requires
lift_query-requires c = omega (arith, query_small (as_query c.in-Ok.ensures.reads c.in_ok-asked.ensures), c.requires.short)

pub returns-in_err-query-clause-stop : goal.returns-in_err-query-clause-stop
returns-in_err-query-clause-stop c = from_error c.from_residual-in_err-query.result c.from_residual-in_err-query.ensures.1 (λ stop p. stops_as (QueryStops c.args.program c.args.text.now) _ _ stop p no_memory)

pub load_query-requires-clause-goals : goal.load_query-requires-clause-goals
load_query-requires-clause-goals c =
    let callees = map called_by c.args.program.definitions in
    let asked = query_without first_asked (query_view c.in_ok-asked.asked) in
    subst (λ (q : Query). All (IsLoadable (callees ++ map defined_by (clauses_view c.in_ok-query.lifted))) q.goals) (sym c.in_ok-query.ensures.query)
    (subst (λ cs. All (IsLoadable (callees ++ map defined_by cs)) asked.goals) (sym c.in_ok-query.ensures.clauses)
    (asked_loads c.args.text.now (query_view c.in_ok-asked.asked) (as_query c.in-Ok.ensures.reads c.in_ok-asked.ensures) callees c.in_default.ensures.accepted).goals)

pub load_query-requires-clause-names : goal.load_query-requires-clause-names
load_query-requires-clause-names c = asked_few (query_view c.in_ok-asked.asked) (query_view c.in_ok-query.query) c.in_ok-query.ensures.query c.in_default.ensures.few

pub load_query-requires-clause-alone : goal.load_query-requires-clause-alone
load_query-requires-clause-alone c =
    rw c.in_ok-query.ensures.clauses (asked_alone c.args.text.now (query_view c.in_ok-asked.asked) (as_query c.in-Ok.ensures.reads c.in_ok-asked.ensures) (map called_by c.args.program.definitions) c.in_default.ensures.accepted)

pub load_query-requires-clause-loadable : goal.load_query-requires-clause-loadable
load_query-requires-clause-loadable c =
    rw c.in_ok-query.ensures.clauses (asked_loads c.args.text.now (query_view c.in_ok-asked.asked) (as_query c.in-Ok.ensures.reads c.in_ok-asked.ensures) (map called_by c.args.program.definitions) c.in_default.ensures.accepted).clauses

pub load_query-requires-clause-unmixed : goal.load_query-requires-clause-unmixed
load_query-requires-clause-unmixed c = rw c.in_ok-query.ensures.clauses (query_unmixed (map called_by c.args.program.definitions) first_asked (query_view c.in_ok-asked.asked) c.in_default.ensures.accepted.liftable)

pub load_query-requires-clause-lifted : goal.load_query-requires-clause-lifted
load_query-requires-clause-lifted c = rw c.in_ok-query.ensures.clauses (asked_new (map called_by c.args.program.definitions) c.args.program.definitions (query_view c.in_ok-asked.asked) c.in_default.ensures.accepted c.requires.open.numbers)

pub load_query-requires-clause-small : goal.load_query-requires-clause-small
load_query-requires-clause-small c =
    let q = query_view c.in_ok-asked.asked in
    let text : IsQueryText c.args.text.now q = as_query c.in-Ok.ensures.reads c.in_ok-asked.ensures in
    let size : query_size q ≤ length c.args.text.now = query_small text in
    let paid : query_size (query_without first_asked q) + clauses_size (made_of_query first_asked q) ≤ 514 * query_size q = query_paid first_asked q (record { few = c.in_default.ensures.few; read = query_whole text; numbered = query_numbered text }) in
    subst (λ (asked : Query). query_size asked + clauses_size (clauses_view c.in_ok-query.lifted) ≤ 7000000) (sym c.in_ok-query.ensures.query)
    (subst (λ cs. query_size (query_without first_asked q) + clauses_size cs ≤ 7000000) (sym c.in_ok-query.ensures.clauses) (omega (arith, paid, size, c.requires.short)))

pub returns-in_err-program-clause-stop : goal.returns-in_err-program-clause-stop
returns-in_err-program-clause-stop c = from_error c.from_residual-in_err-program.result c.from_residual-in_err-program.ensures.1 (λ stop p. stops_as (QueryStops c.args.program c.args.text.now) _ _ stop p no_memory)

pub returns-clause-loaded : goal.returns-clause-loaded
returns-clause-loaded c = record {
  asked = query_view c.in_ok-asked.asked;
  reads = as_query c.in-Ok.ensures.reads c.in_ok-asked.ensures;
  allowed = c.in_default.ensures.checked;
  stands = subst (λ (q : Query). IsQueryOf c.args.program (made_of_query first_asked (query_view c.in_ok-asked.asked)) q c.in_ok-program.program c.in_ok-program.query) c.in_ok-query.ensures.query
      (subst (λ cs. IsQueryOf c.args.program cs (query_view c.in_ok-query.query) c.in_ok-program.program c.in_ok-program.query) c.in_ok-query.ensures.clauses c.in_ok-program.ensures.query);
}

pub returns-clause-variables : goal.returns-clause-variables
returns-clause-variables c =
    has_variables (query_view c.in_ok-query.query) c.in_ok-program.ensures.query (asked_few (query_view c.in_ok-asked.asked) (query_view c.in_ok-query.query) c.in_ok-query.ensures.query c.in_default.ensures.few)
    c.len-first_variable.ensures.len c.requires.open.nodes
