use Rattle.std.proofs.Common.{◌≡◌, ◌+◌, ◌≤◌, ◌*◌, ◌++◌, map, sym, ap, subst, ◌∙◌}
use Rattle.akl_syntax.specs.Clauses.{Query}
use Rattle.akl_syntax.specs.Answers.{clause_view, clauses_view, query_view}
use Rattle.akl_syntax.specs.Sizes.{clauses_size, query_size}
use Rattle.akl_lift.specs.Lifting.{joined, query_without, made_of_query}
use Rattle.akl_lift.proofs.Asked.{query_paid}
use Rattle.akl_lift.proofs.Wholes.{definitions_added}
use Rattle.akl_lift.proofs.query.lift_query.Goals as given

pub returns-clause-clauses : given.returns-clause-clauses
returns-clause-clauses c =
    definitions_added (clauses_view c.new-clauses.result) (clauses_view c.add_definitions.new.clauses) (map clauses_view c.lift_asked.new.out.definitions.items) _ (ap (map clause_view) c.new-clauses.ensures.items)
    (c.in_ok-add_definitions.ensures ∙ ap (λ ds. clauses_view c.new-clauses.result ++ joined (map clauses_view ds)) c.deref_mut.ensures.value) c.in_ok-lift_asked.ensures.made

pub returns-clause-bound : given.returns-clause-bound
returns-clause-bound c = λ w.
    let q = query_view c.args.query in
    let made : clauses_view c.add_definitions.new.clauses ≡ made_of_query c.args.next q = returns-clause-clauses c in
    subst (λ (asked : Query). query_size asked + clauses_size (clauses_view c.add_definitions.new.clauses) ≤ 514 * query_size q) (sym c.in_ok-lift_asked.ensures.query)
    (subst (λ cs. query_size (query_without c.args.next q) + clauses_size cs ≤ 514 * query_size q) (sym made) (query_paid c.args.next q w))
