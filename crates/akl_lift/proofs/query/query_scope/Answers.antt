use Rattle.std.proofs.Common.{◌≡◌, ◌++◌, length, map, ap, ◌∙◌, arith}
use Rattle.std.proofs.lemmas.Result.{IfOk-weaker}
use Rattle.akl_syntax.specs.Goals.{goals}
use Rattle.akl_syntax.specs.GoalView.{goal}
use Rattle.akl_lift.specs.Lifting.{times, numbers_from, shown_from}
use Rattle.akl_lift.specs.Noting.{outer_all, insides_all, inside_view}
use Rattle.akl_lift.proofs.Wholes.{all_added}
use Rattle.akl_lift.proofs.query.query_scope.Goals as goal_of

pub returns-clause-order : goal_of.returns-clause-order
returns-clause-order c =
    let count : c.len.result ≡ length c.args.query.now.names.items = omega (arith, c.len.ensures) in
    IfOk-weaker c.written_scope.result _ _ (λ s e. e ∙ ap (numbers_from 0) count) c.written_scope.ensures.order

pub returns-clause-counts : goal_of.returns-clause-counts
returns-clause-counts c =
    let whole = all_added c.new-found.result.items c.add_shown.new.found.items c.note_goals.new.found.items c.deref-3.result.now _ _ c.new-found.ensures.items
    (c.in_ok-add_shown.ensures ∙ ap (λ ws. c.new-found.result.items ++ shown_from 0 ws) c.deref.ensures.value)
    (c.in_ok-note_goals.ensures.found ∙ ap (λ xs. c.add_shown.new.found.items ++ outer_all (goals (map goal xs))) c.deref-2.ensures.value) c.deref-3.ensures.value in
    IfOk-weaker c.written_scope.result _ _ (λ s t. λ q. t q ∙ ap (times q) whole) c.written_scope.ensures.counts

pub returns-clause-scope : goal_of.returns-clause-scope
returns-clause-scope c = c.written_scope.ensures.scope

pub returns-clause-noted : goal_of.returns-clause-noted
returns-clause-noted c =
    let noted = c.in_ok-note_goals.ensures.noted ∙ ap (λ xs. map inside_view c.args.noted.now.items ++ insides_all (goals (map goal xs))) c.deref-2.ensures.value in
    IfOk-weaker c.written_scope.result _ _ (λ s e. noted) c.written_scope.ensures.scope
