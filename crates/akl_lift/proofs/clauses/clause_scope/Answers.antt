use Rattle.std.proofs.Common.{◌≡◌, ◌++◌, length, map, ap, ◌∙◌, arith}
use Rattle.std.proofs.lemmas.Result.{IfOk-weaker}
use Rattle.term_syntax.specs.View.{tree}
use Rattle.term_syntax.specs.Tree.{trees}
use Rattle.term_syntax.specs.Variables.{trees_variables}
use Rattle.akl_lift.specs.Lifting.{times, numbers_from}
use Rattle.akl_lift.proofs.Wholes.{three_added}
use Rattle.akl_lift.proofs.clauses.clause_scope.Goals as goal_of

pub returns-clause-order : goal_of.returns-clause-order
returns-clause-order c =
    let count : c.len.result ≡ length c.args.clause.now.names.items = omega (arith, c.len.ensures) in
    IfOk-weaker c.written_scope.result _ _ (λ s e. e ∙ ap (numbers_from 0) count) c.written_scope.ensures.order

pub returns-clause-counts : goal_of.returns-clause-counts
returns-clause-counts c =
    let whole = three_added c.new-found.result.items c.add_terms.new.found.items c.add_collected.new.found.items c.note_part.new.found.items c.deref-2.result.now _ _ _ c.new-found.ensures.items
    (c.in_ok-add_terms.ensures ∙ ap (λ xs. c.new-found.result.items ++ trees_variables (trees (map tree xs))) c.deref.ensures.value) c.in_ok-add_collected.ensures c.in_ok-note_part.ensures.found c.deref-2.ensures.value in
    IfOk-weaker c.written_scope.result _ _ (λ s t. λ q. t q ∙ ap (times q) whole) c.written_scope.ensures.counts

pub returns-clause-scope : goal_of.returns-clause-scope
returns-clause-scope c = c.written_scope.ensures.scope

pub returns-clause-noted : goal_of.returns-clause-noted
returns-clause-noted c = IfOk-weaker c.written_scope.result _ _ (λ s e. c.in_ok-note_part.ensures.noted) c.written_scope.ensures.scope
