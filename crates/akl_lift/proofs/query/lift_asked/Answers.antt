use Rattle.std.proofs.Common.{◌≡◌, ◌++◌, map, ap, ◌∙◌, arith}
use Rattle.akl_syntax.specs.Goals.{goals}
use Rattle.akl_syntax.specs.GoalView.{goal}
use Rattle.akl_syntax.specs.Answers.{query_view, clauses_view}
use Rattle.akl_lift.specs.Lifting.{without_all, made_all, query_origin, query_shares, hidden_locals}
use Rattle.akl_lift.specs.Scopes.{chosen_of, origin_view}
use Rattle.akl_lift.proofs.Programs.{goals_choices_size}
use Rattle.akl_lift.proofs.Shares.{same_made_all}
use Rattle.akl_lift.proofs.Wholes.{fresh_noted, query_agrees, query_same, query_by}
use Rattle.akl_lift.proofs.Hiding.{hidden_without}
use Rattle.akl_lift.proofs.query.lift_asked.Goals as given

pub lift_goals-requires-clause-room : given.lift_goals-requires-clause-room
lift_goals-requires-clause-room c =
    let same = ap (λ v. goals (map goal v.items)) c.in_ok-hide_locals.ensures.goals in
    rw (c.deref.ensures.value, same) (omega (arith, goals_choices_size (goals (map goal c.args.query.now.goals.items)), c.requires.room))

pub lift_goals-requires-clause-noted : given.lift_goals-requires-clause-noted
lift_goals-requires-clause-noted c =
    rw c.deref.ensures.value (fresh_noted c.query_scope.new.noted.items c.args.out.now.definitions.items _ c.requires.none (rw c.in_ok-origin.ensures.noted at c.in_ok-scope.ensures.noted))

pub returns-clause-query : given.returns-clause-query
returns-clause-query c =
    let s = c.in_ok-scope.scope in
    let q = query_view c.args.query.now in
    let h = query_view c.hide_locals.new.query in
    let hidden : h ≡ hidden_locals q = c.in_ok-hide_locals.ensures.query in
    let agrees = query_agrees s h c.in_ok-scope.ensures.order c.in_ok-scope.ensures.counts in
    let same = ap (λ xs. without_all s.order.items (chosen_of s) c.args.out.now.next (goals (map goal xs))) c.deref.ensures.value ∙ query_same s h c.args.out.now.next c.in_ok-scope.ensures.order agrees in
    ap (λ gs. query_by gs h.names) (c.in_ok-goals.ensures.goals ∙ same) ∙ hidden_without q h c.args.out.now.next hidden

pub returns-clause-made : given.returns-clause-made
returns-clause-made c =
    let s = c.in_ok-scope.scope in
    let q = query_view c.args.query.now in
    let h = query_view c.hide_locals.new.query in
    let hidden : h ≡ hidden_locals q = c.in_ok-hide_locals.ensures.query in
    let first = c.args.out.now.next in
    let gs = goals h.goals in
    let agrees = query_agrees s h c.in_ok-scope.ensures.order c.in_ok-scope.ensures.counts in
    c.in_ok-goals.ensures.made
    ∙ ap (λ ds. map clauses_view ds ++ made_all (origin_view c.in_ok-origin.origin) (chosen_of s) c.args.out.now.next (goals (map goal c.deref.result.now))) c.requires.none
    ∙ ap (λ xs. made_all (origin_view c.in_ok-origin.origin) (chosen_of s) c.args.out.now.next (goals (map goal xs))) c.deref.ensures.value
    ∙ ap (λ w. made_all w (chosen_of s) first gs) c.in_ok-origin.ensures.origin ∙ same_made_all (query_origin q) (chosen_of s) (query_shares h) first gs agrees
    ∙ ap (λ z. made_all (query_origin q) (query_shares z) first (goals z.goals)) hidden
