use Rattle.std.proofs.Common.{arith}
use Rattle.std.proofs.lemmas.List.{map_push, length-map}
use Rattle.akl_syntax.specs.Answers.{clause_view, clauses_view}
use Rattle.clause_keys.specs.Keys.{defined_by, IsAbsent}
use Rattle.clause_store.proofs.Sums.{clauses_sum}
use Rattle.clause_store.proofs.Yielded.{is_next, next_size, next_all}
use Rattle.clause_store.proofs.Gathered.{gathered_none, one_more, few_callees}
use Rattle.clause_store.proofs.groups.gather.Goals as goal

pub loop-clause-init : goal.loop-clause-init
loop-clause-init c = rw c.new-groups.ensures.items (gathered_none _)

pub add_clause-requires-clause-room : goal.add_clause-requires-clause-room
add_clause-requires-clause-room c =
    let next = is_next c.args.clauses c.into_iter-clause-iterator.result c.into_iter-clause-iterator.ensures.into_iter_gives.0 c.into_iter-clause-iterator.ensures.into_iter_gives.1 c.loop-clause.yielded c.loop-clause.clause-iterator c.loop-clause.yielded_by c.next.result c.next.new.self c.in-Some.clause c.in-Some.is c.next.ensures.steps in
    few_callees (clause_view c.in-Some.clause) c.loop-clause.invariant (omega (arith, next_size clauses_sum clause_view next, c.requires.few))

pub add_clause-requires-clause-small : goal.add_clause-requires-clause-small
add_clause-requires-clause-small c =
    let next = is_next c.args.clauses c.into_iter-clause-iterator.result c.into_iter-clause-iterator.ensures.into_iter_gives.0 c.into_iter-clause-iterator.ensures.into_iter_gives.1 c.loop-clause.yielded c.loop-clause.clause-iterator c.loop-clause.yielded_by c.next.result c.next.new.self c.in-Some.clause c.in-Some.is c.next.ensures.steps in
    omega (arith, next_size clauses_sum clause_view next, c.requires.few)

pub overflow_sub-number : goal.overflow_sub-number
overflow_sub-number c =
    let next = is_next c.args.clauses c.into_iter-clause-iterator.result c.into_iter-clause-iterator.ensures.into_iter_gives.0 c.into_iter-clause-iterator.ensures.into_iter_gives.1 c.loop-clause.yielded c.loop-clause.clause-iterator c.loop-clause.yielded_by c.next.result c.next.new.self c.in-Some.clause c.in-Some.is c.next.ensures.steps in
    let more = one_more (clause_view c.in-Some.clause) c.requires.unique (next_all (λ d. IsAbsent c.args.callees.now (defined_by d)) clause_view next c.requires.new) c.loop-clause.invariant c.in_ok-number.ensures.ok in
    rw c.requires.known more.above

pub put-requires : goal.put-requires
put-requires c =
    let next = is_next c.args.clauses c.into_iter-clause-iterator.result c.into_iter-clause-iterator.ensures.into_iter_gives.0 c.into_iter-clause-iterator.ensures.into_iter_gives.1 c.loop-clause.yielded c.loop-clause.clause-iterator c.loop-clause.yielded_by c.next.result c.next.new.self c.in-Some.clause c.in-Some.is c.next.ensures.steps in
    let more = one_more (clause_view c.in-Some.clause) c.requires.unique (next_all (λ d. IsAbsent c.args.callees.now (defined_by d)) clause_view next c.requires.new) c.loop-clause.invariant c.in_ok-number.ensures.ok in
    omega (arith, c.requires.known, more.within, length-map c.loop-clause.groups.items clauses_view)

pub loop-clause-preserved : goal.loop-clause-preserved
loop-clause-preserved c =
    let next = is_next c.args.clauses c.into_iter-clause-iterator.result c.into_iter-clause-iterator.ensures.into_iter_gives.0 c.into_iter-clause-iterator.ensures.into_iter_gives.1 c.loop-clause.yielded c.loop-clause.clause-iterator c.loop-clause.yielded_by c.next.result c.next.new.self c.in-Some.clause c.in-Some.is c.next.ensures.steps in
    let more = one_more (clause_view c.in-Some.clause) c.requires.unique (next_all (λ d. IsAbsent c.args.callees.now (defined_by d)) clause_view next c.requires.new) c.loop-clause.invariant c.in_ok-number.ensures.ok in
    rw (map_push clause_view c.loop-clause.yielded c.in-Some.clause, c.in_ok-put.ensures, c.requires.known) more.gathered
