use Rattle.std.proofs.Common.{◌≡◌, ℕ, length, map, None, replicate, [], ap, subst, sym, ◌∙◌, arith}
use Rattle.std.proofs.lemmas.List.{length-replicate}
use Rattle.akl_syntax.specs.Answers.{query_view}
use Rattle.akl_syntax.specs.GoalView.{goal}
use Rattle.akl_syntax.specs.Variables.{query_variables}
use Rattle.akl_syntax.specs.declared.source.SourceQuery.{SourceQuery}
use Rattle.variable_scopes.specs.Numbering.{AreBelow, state}
use Rattle.variable_scopes.proofs.ClauseParts.{same_goals, same_query}
use Rattle.variable_scopes.proofs.Scopes.{start, named_below, query_scoped}
use Rattle.variable_scopes.proofs.clauses.scoped_query.Goals as goal

pub numbered_goals-requires : goal.numbered_goals-requires
numbered_goals-requires c =
    let size : length c.in_ok-numbering.numbering.current.items ≡ c.len.result = ap length c.in_ok-numbering.ensures.current ∙ length-replicate c.len.result None in
    rw c.deref.ensures.value (subst (λ (z : ℕ). AreBelow z (query_variables (query_view c.args.query))) (sym size) (named_below c.len.result _ (λ n o. omega (arith, c.requires.named n o, c.len.ensures))))

pub returns : goal.returns
returns c =
    let current : c.in_ok-numbering.numbering.current.items ≡ replicate c.len.result None = c.in_ok-numbering.ensures.current in
    let found : c.in_ok-numbering.numbering.found.items ≡ [] = c.in_ok-numbering.ensures.found in
    let begins : state c.in_ok-numbering.numbering ≡ start c.len.result = cc in
    let new : SourceQuery = record { goals = c.in_ok-query.field-0; names = c.in_ok-query-2.field-0 } in
    let shape = same_goals (map goal c.in_ok-query.field-0.items) (map goal c.args.query.goals.items) (rw c.deref.ensures.value at c.in_ok-query.ensures.shape) in
    query_scoped c.len.result (query_view c.args.query) (query_view new) (state c.numbered_goals.new.numbering)
    (named_below c.len.result _ (λ n o. omega (arith, c.requires.named n o, c.len.ensures)))
    (same_query (query_view c.args.query) (query_view new) shape)
    (rw (begins, c.deref.ensures.value) at c.in_ok-query.ensures.numbers)
    (rw (c.deref-2.ensures.value, c.deref-3.ensures.value) at c.in_ok-query-2.ensures)
