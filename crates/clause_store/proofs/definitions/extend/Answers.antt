use Rattle.std.proofs.Common.{arith}
use Rattle.std.proofs.lemmas.List.{map_push, length-map}
use Rattle.akl_syntax.specs.Answers.{clause_view, clauses_view}
use Rattle.clause_store.proofs.Yielded.{is_next, were_all, next_size}
use Rattle.clause_store.proofs.Gathered.{groups_sum}
use Rattle.clause_store.proofs.Defined.{next_group, gathered_groups, of_one_op, group_loadable, definitions_start, definitions_more, group_room, definitions_end}
use Rattle.clause_store.proofs.definitions.extend.Goals as goal

pub loop-group-init : goal.loop-group-init
loop-group-init c = definitions_start _ _ _ _

pub load_definition-requires-clause-some : goal.load_definition-requires-clause-some
load_definition-requires-clause-some c =
    let next = is_next c.in_ok-groups.groups c.into_iter-group-iterator.result c.into_iter-group-iterator.ensures.into_iter_gives.0 c.into_iter-group-iterator.ensures.into_iter_gives.1 c.loop-group.yielded c.loop-group.group-iterator c.loop-group.yielded_by c.next.result c.next.new.self c.in-Some.group c.in-Some.is c.next.ensures.steps in
    let at = next_group clauses_view (gathered_groups c.in_ok-groups.ensures) next in
    omega (arith, at.some, length-map c.in-Some.group.items clause_view)

pub load_definition-requires-clause-loadable : goal.load_definition-requires-clause-loadable
load_definition-requires-clause-loadable c =
    let next = is_next c.in_ok-groups.groups c.into_iter-group-iterator.result c.into_iter-group-iterator.ensures.into_iter_gives.0 c.into_iter-group-iterator.ensures.into_iter_gives.1 c.loop-group.yielded c.loop-group.group-iterator c.loop-group.yielded_by c.next.result c.next.new.self c.in-Some.group c.in-Some.is c.next.ensures.steps in
    let at = next_group clauses_view (gathered_groups c.in_ok-groups.ensures) next in
    group_loadable c.in_ok-groups.ensures.collected at.found c.requires.loadable

pub load_definition-requires-clause-unmixed : goal.load_definition-requires-clause-unmixed
load_definition-requires-clause-unmixed c =
    let next = is_next c.in_ok-groups.groups c.into_iter-group-iterator.result c.into_iter-group-iterator.ensures.into_iter_gives.0 c.into_iter-group-iterator.ensures.into_iter_gives.1 c.loop-group.yielded c.loop-group.group-iterator c.loop-group.yielded_by c.next.result c.next.new.self c.in-Some.group c.in-Some.is c.next.ensures.steps in
    let at = next_group clauses_view (gathered_groups c.in_ok-groups.ensures) next in
    of_one_op c.requires.unmixed at.found

pub load_definition-requires-clause-room : goal.load_definition-requires-clause-room
load_definition-requires-clause-room c =
    let next = is_next c.in_ok-groups.groups c.into_iter-group-iterator.result c.into_iter-group-iterator.ensures.into_iter_gives.0 c.into_iter-group-iterator.ensures.into_iter_gives.1 c.loop-group.yielded c.loop-group.group-iterator c.loop-group.yielded_by c.next.result c.next.new.self c.in-Some.group c.in-Some.is c.next.ensures.steps in
    group_room c.requires.room c.loop-group.invariant (omega (arith, next_size groups_sum clauses_view next, c.in_ok-groups.ensures.size))

pub loop-group-preserved : goal.loop-group-preserved
loop-group-preserved c =
    let next = is_next c.in_ok-groups.groups c.into_iter-group-iterator.result c.into_iter-group-iterator.ensures.into_iter_gives.0 c.into_iter-group-iterator.ensures.into_iter_gives.1 c.loop-group.yielded c.loop-group.group-iterator c.loop-group.yielded_by c.next.result c.next.new.self c.in-Some.group c.in-Some.is c.next.ensures.steps in
    let at = next_group clauses_view (gathered_groups c.in_ok-groups.ensures) next in
    rw (map_push clauses_view c.loop-group.yielded c.in-Some.group, c.in_ok-push.ensures.items) (definitions_more c.loop-group.invariant at c.in_ok-next.ensures)

pub returns : goal.returns
returns c =
    let all = were_all c.in_ok-groups.groups c.into_iter-group-iterator.result c.into_iter-group-iterator.ensures.into_iter_gives.0 c.into_iter-group-iterator.ensures.into_iter_gives.1 c.loop-group.yielded c.loop-group.group-iterator c.loop-group.yielded_by c.next.result c.next.new.self c.in-None.is c.next.ensures.steps in
    definitions_end c.in_ok-groups.ensures (rw all at c.loop-group.invariant) c.requires.callees
