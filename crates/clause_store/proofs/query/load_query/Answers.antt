use Rattle.std.proofs.Common.{◌≡◌, length, map, refl, sym, ap, ◌∙◌, arith}
use Rattle.std.proofs.lemmas.List.{length-map}
use Rattle.akl_syntax.specs.Answers.{clause_view, clauses_view, query_view}
use Rattle.akl_terms.specs.declared.term.Node.{Node}
use Rattle.clause_keys.specs.Keys.{called_by}
use Rattle.clause_store.specs.Putting.{numbers_from}
use Rattle.clause_store.proofs.Coded.{few_codes}
use Rattle.clause_store.proofs.NewLifted.{all_absent}
use Rattle.clause_store.proofs.Growing.{pushed_lengths}
use Rattle.clause_store.proofs.VariableNodes.{variables_length}
use Rattle.clause_store.proofs.Extended.{over}
use Rattle.clause_store.proofs.Collecting.{may_collect, query_collects}
use Rattle.clause_store.proofs.Loads.{query_put, program_unique, definitions_few}
use Rattle.clause_store.proofs.query.load_query.Goals as goals

pub put_variables_below-requires : goals.put_variables_below-requires
put_variables_below-requires c = omega (arith, c.len-variables.ensures, c.args.query.names.ok, c.requires.names, c.requires.few_nodes)

pub put_all-requires-clause-unique : goals.put_all-requires-clause-unique
put_all-requires-clause-unique c = rw c.into_vec-definitions.ensures c.requires.unique

pub put_all-requires-clause-new : goals.put_all-requires-clause-new
put_all-requires-clause-new c = rw c.into_vec-definitions.ensures (all_absent c.args.program.definitions (clauses_view c.args.lifted) c.requires.lifted)

pub put_all-requires-clause-loadable : goals.put_all-requires-clause-loadable
put_all-requires-clause-loadable c = rw c.into_vec-definitions.ensures c.requires.loadable

pub put_all-requires-clause-goals : goals.put_all-requires-clause-goals
put_all-requires-clause-goals c = rw (c.into_vec-definitions.ensures, c.deref.ensures.value) c.requires.goals

pub put_all-requires-clause-few : goals.put_all-requires-clause-few
put_all-requires-clause-few c = omega (arith, ap length c.into_vec-definitions.ensures, c.requires.few_definitions, c.requires.small)

pub put_all-requires-clause-room : goals.put_all-requires-clause-room
put_all-requires-clause-room c =
    let n : c.len-variables.result ≡ length c.args.query.names.items = omega (arith, c.len-variables.ensures, c.args.query.names.ok) in
    let l = pushed_lengths c.args.program.templates c.put_variables_below.new.templates (map (λ m. Node.Var m) (numbers_from 0 c.len-variables.result)) c.in_ok-put_variables_below.ensures in
    rw c.deref.ensures.value (record {
      nodes = omega (arith, l.0, variables_length 0 c.len-variables.result, n, c.requires.names, c.requires.small, c.requires.few_nodes);
      symbols = omega (arith, l.1, c.requires.small, c.requires.few_symbols);
    })

pub returns-clause-query : goals.returns-clause-query
returns-clause-query c =
    let n : c.len-variables.result ≡ length c.args.query.names.items = omega (arith, c.len-variables.ensures, c.args.query.names.ok) in
    let put = rw c.deref.ensures.value at c.in_ok-goals.ensures in
    query_put c.args.program (query_view c.args.query) _ _ (rw n at c.in_ok-put_variables_below.ensures) (ap (map called_by) c.into_vec-definitions.ensures) c.into_vec-definitions.ensures put.extended put.goals c.new.ensures refl refl c.new-2.ensures
    n (c.new-3.ensures ∙ c.in_ok-shown.ensures) c.in_order.ensures.arranged c.in_order.ensures.distinct

pub returns-clause-over : goals.returns-clause-over
returns-clause-over c = over (returns-clause-query c) c.in_order.ensures.arranged (all_absent c.args.program.definitions (clauses_view c.args.lifted) c.requires.lifted)

pub returns-clause-unique : goals.returns-clause-unique
returns-clause-unique c = program_unique _ (rw (sym c.into_vec-definitions.ensures) at c.requires.unique) c.in_ok-goals.ensures.extended c.new.ensures

pub returns-clause-goals : goals.returns-clause-goals
returns-clause-goals c =
    let put = rw c.deref.ensures.value at c.in_ok-goals.ensures in
    omega (arith, ap length c.new-2.ensures, few_codes put.goals.codes)

pub returns-clause-nodes : goals.returns-clause-nodes
returns-clause-nodes c =
    let n : c.len-variables.result ≡ length c.args.query.names.items = omega (arith, c.len-variables.ensures, c.args.query.names.ok) in
    let l = pushed_lengths c.args.program.templates c.put_variables_below.new.templates (map (λ m. Node.Var m) (numbers_from 0 c.len-variables.result)) c.in_ok-put_variables_below.ensures in
    let put = rw c.deref.ensures.value at c.in_ok-goals.ensures in
    omega (arith, l.0, variables_length 0 c.len-variables.result, n, put.extended.gains.nodes, put.goals.gains.nodes)

pub returns-clause-symbols : goals.returns-clause-symbols
returns-clause-symbols c =
    let l = pushed_lengths c.args.program.templates c.put_variables_below.new.templates (map (λ m. Node.Var m) (numbers_from 0 c.len-variables.result)) c.in_ok-put_variables_below.ensures in
    let put = rw c.deref.ensures.value at c.in_ok-goals.ensures in
    omega (arith, l.1, put.extended.gains.symbols, put.goals.gains.symbols)

pub returns-clause-definitions : goals.returns-clause-definitions
returns-clause-definitions c =
    omega (arith, definitions_few _ c.in_ok-goals.ensures.extended c.new.ensures, ap length c.into_vec-definitions.ensures, length-map c.into_vec-definitions.result.items called_by, length-map c.args.lifted.items clause_view)

pub returns-clause-collecting : goals.returns-clause-collecting
returns-clause-collecting c = query_collects (returns-clause-query c) c.requires.alone (may_collect _ _ c.requires.loadable)
