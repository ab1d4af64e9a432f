use Rattle.std.proofs.Common.{◌++◌, map, sym, ap, ◌∙◌}
use Rattle.std.specs.Prelude.{option_map}
use Rattle.std.proofs.lemmas.Result.{on_ok_weaker}
use Rattle.term_syntax.specs.View.{tree}
use Rattle.akl_syntax.specs.Goals.{goals}
use Rattle.akl_syntax.specs.GoalView.{goal}
use Rattle.akl_syntax.specs.Answers.{clauses_view}
use Rattle.akl_syntax.proofs.PartTurns.{part_is}
use Rattle.akl_lift.specs.Lifting.{joined, made_of, clause_without, clause_order, clause_shares, clause_origin}
use Rattle.akl_lift.specs.Scopes.{origin_view, made_by}
use Rattle.akl_lift.proofs.Parted.{part_same, made_same, clause_by}
use Rattle.akl_lift.proofs.Wholes.{seen_clause, clause_seen, clause_scoped}
use Rattle.akl_lift.proofs.clauses.lift_clause.Goals as given

pub lift_part-requires-clause-room : given.lift_part-requires-clause-room
lift_part-requires-clause-room c = rw (part_is c.args.clause.now.part) at c.requires

pub lift_part-requires-clause-noted : given.lift_part-requires-clause-noted
lift_part-requires-clause-noted c = rw c.in_ok-origin.ensures.noted at c.in_ok-scope.ensures.noted

pub returns-clause-next : given.returns-clause-next
returns-clause-next c = rw (part_is c.args.clause.now.part) c.lift_part.ensures.next

pub returns-clause-clause : given.returns-clause-clause
returns-clause-clause c =
    let x = c.args.clause.now in
    let s = c.in_ok-scope.scope in
    let d = seen_clause c.args.clause.now in
    let next = c.args.out.now.next in
    let gs = goals (map goal c.args.clause.now.part.guard.items) in
    let hs = goals (map goal c.args.clause.now.part.body.items) in
    let scoped = clause_scoped s d c.in_ok-scope.ensures.order c.in_ok-scope.ensures.counts in
    on_ok_weaker c.lift_part.result
    (λ e. ap (λ p. clause_by x.head (map tree x.arguments.items) p (option_map tree x.collected) x.names.items x.start) (e ∙ part_same (clause_origin d) s (clause_order d) (clause_shares d) gs hs scoped next c.args.clause.now.part.op)
    ∙ ap (clause_without next) (sym (clause_seen c.args.clause.now))) c.lift_part.ensures.part

pub returns-clause-made : given.returns-clause-made
returns-clause-made c =
    let w = origin_view c.in_ok-origin.origin in
    let s = c.in_ok-scope.scope in
    let d = seen_clause c.args.clause.now in
    let next = c.args.out.now.next in
    let gs = goals (map goal c.args.clause.now.part.guard.items) in
    let hs = goals (map goal c.args.clause.now.part.body.items) in
    let scoped = clause_scoped s d c.in_ok-scope.ensures.order c.in_ok-scope.ensures.counts in
    on_ok_weaker c.lift_part.result
    (λ e. e ∙ ap (λ z. clauses_view c.args.out.now.clauses ++ joined z) (made_same w s (clause_order d) (clause_shares d) gs hs scoped next)
    ∙ ap (λ z. clauses_view c.args.out.now.clauses ++ joined (made_by z (clause_shares d) next gs hs)) c.in_ok-origin.ensures.origin
    ∙ ap (λ z. clauses_view c.args.out.now.clauses ++ joined (made_of next z)) (sym (clause_seen c.args.clause.now))) c.lift_part.ensures.made
