use Rattle.std.proofs.Common.{◌≡◌, ◌<◌, ◌+◌, ◌++◌, ◌∷◌, [], ◌≤◌, length, map, sym, ap, ◌∙◌, arith}
use Rattle.akl_syntax.specs.Goals.{choice, lifted, collect, lifted_collect, goals, parts}
use Rattle.akl_syntax.specs.GoalView.{goal, part}
use Rattle.akl_syntax.specs.Answers.{clauses_view}
use Rattle.std.proofs.lemmas.Result.{IfOk-weaker}
use Rattle.term_syntax.specs.View.{tree}
use Rattle.akl_syntax.specs.Variables.{parts_variables}
use Rattle.akl_syntax.specs.Answers.{clause_view}
use Rattle.akl_lift.specs.Places.{place, placed_tree}
use Rattle.akl_lift.specs.Lifting.{choices_in_all, without_all, collect_variables, collect_shares, collect_clause, part_clauses, made_all, made_inside}
use Rattle.akl_lift.specs.Noting.{outer_parts, outer_collected, insides_all}
use Rattle.akl_lift.specs.Scopes.{origin_view, definitions_view, chosen_of}
use Rattle.akl_lift.proofs.Slots.{slot_room}
use Rattle.akl_lift.proofs.Notes.{length-outer_parts, outer_at, noted_front}
use Rattle.akl_lift.proofs.Within.{goal_within, part_within}
use Rattle.akl_syntax.specs.Sizes.{goal_size, goals_size}
use Rattle.akl_syntax.proofs.PartTurns.{goal_choice}
use Rattle.akl_syntax.proofs.CollectTurns.{goal_collect}
use Rattle.akl_lift.proofs.Loops.{goals_turn, goals_room, goals_noted, goals_done, parts_turn, parts_room, parts_noted, parts_done}
use Rattle.akl_lift.proofs.Turns.{goals_start, parts_start}
use Rattle.akl_lift.proofs.Parted.{part_scoped, collect_scoped, collecting_same, second_noted, made_both, part_lifted, part_same, made_same, answered_clause}
use Rattle.akl_lift.proofs.Choosing.{arguments_noted, lists_noted, next_noted, calling_goal, nested_made, here_noted, one_list, first_list}
use Rattle.akl_lift.proofs.Outer.{seen-outer_parts, seen-outer_collected}
use Rattle.akl_lift.proofs.Shares.{same_made_all}
use Rattle.akl_lift.proofs.lifting.+lifting.Goals as given

pub lift_goals-loop-goal-init : given.lift_goals-loop-goal-init
lift_goals-loop-goal-init t c = rw c.new-found.ensures.items (goals_start c.requires.noted)

pub lift_goals-loop-goal-preserved : given.lift_goals-loop-goal-preserved
lift_goals-loop-goal-preserved t c =
    let within : c.loop-goal.goal-index < length c.args.written.now = omega (arith, c.loop-goal-test.true, c.loop-goal.auto.goal-index-end) in
    rw c.in_ok-push.ensures.items
    (goals_turn c.args.written.now c.loop-goal.goal-index c.goal-item.result c.in_ok-next.next c.loop-goal.found.items within c.goal-item.is c.loop-goal.invariant c.in_ok-next.ensures.next c.in_ok-next.ensures.goal c.in_ok-next.ensures.made)

pub lift_goals-returns-clause-next : given.lift_goals-returns-clause-next
lift_goals-returns-clause-next t c = (goals_done c.args.written.now c.loop-goal.goal-index (omega (arith, c.loop-goal-test.false, c.loop-goal.auto.goal-index-end)) c.loop-goal.invariant).next_is

pub lift_goals-returns-clause-goals : given.lift_goals-returns-clause-goals
lift_goals-returns-clause-goals t c = (goals_done c.args.written.now c.loop-goal.goal-index (omega (arith, c.loop-goal-test.false, c.loop-goal.auto.goal-index-end)) c.loop-goal.invariant).found_are

pub lift_goals-returns-clause-made : given.lift_goals-returns-clause-made
lift_goals-returns-clause-made t c = (goals_done c.args.written.now c.loop-goal.goal-index (omega (arith, c.loop-goal-test.false, c.loop-goal.auto.goal-index-end)) c.loop-goal.invariant).made_are

pub lift_goals-lift_goal-requires : given.lift_goals-lift_goal-requires
lift_goals-lift_goal-requires t c =
    let within : c.loop-goal.goal-index < length c.args.written.now = omega (arith, c.loop-goal-test.true, c.loop-goal.auto.goal-index-end) in (
      omega (arith, c.decreases, goal_within c.args.written.now c.loop-goal.goal-index c.goal-item.result within c.goal-item.is),
      (
        c.requires.scope,
        (
          omega (arith, goals_room c.args.written.now c.loop-goal.goal-index c.goal-item.result within c.goal-item.is c.loop-goal.invariant, c.requires.room),
          goals_noted c.args.written.now c.loop-goal.goal-index c.goal-item.result within c.goal-item.is c.loop-goal.invariant,
        ),
      ),
    )

pub lift_choice-lift_parts-requires : given.lift_choice-lift_parts-requires
lift_choice-lift_parts-requires t c =
    let at : c.len-at.result ≡ length c.args.out.now.definitions.items = omega (arith, c.len-at.ensures) in
    let noted = here_noted (outer_parts (parts (map part c.args.written.now))) c.args.out.now.definitions.items c.len-at.result c.index-inside.result.now at c.index-inside.ensures c.requires.noted in (
      omega (arith, c.decreases),
      (
        omega (arith, c.requires.room),
        (
          next_noted c.args.out.now.definitions.items c.push.new.self.items _ _ _ c.in_ok-push.ensures.items c.requires.noted,
          ap (λ ls. map (λ v. v.items) ls) c.deref-3.ensures.value ∙ lists_noted c.index-inside.result.now (outer_parts (parts (map part c.args.written.now))) noted,
        ),
      ),
    )

pub lift_choice-index_mut-requires : given.lift_choice-index_mut-requires
lift_choice-index_mut-requires t c =
    let at : c.len-at.result ≡ length c.args.out.now.definitions.items = omega (arith, c.len-at.ensures) in
    let room = slot_room clauses_view c.args.out.now.definitions.items c.push.new.self.items c.lift_parts.new.out.definitions.items _ _ c.len-at.result c.in_ok-push.ensures.items c.in_ok-own.ensures.made at in
    omega (arith, room)

pub lift_choice-returns-clause-goal : given.lift_choice-returns-clause-goal
lift_choice-returns-clause-goal t c =
    let ps = parts (map part c.args.written.now) in
    let at : c.len-at.result ≡ length c.args.out.now.definitions.items = omega (arith, c.len-at.ensures) in
    let noted = here_noted (outer_parts (parts (map part c.args.written.now))) c.args.out.now.definitions.items c.len-at.result c.index-inside.result.now at c.index-inside.ensures c.requires.noted in
    let chosen = arguments_noted c.args.scope.now c.index-inside.result.now (outer_parts ps) (parts_variables ps) c.deref.result.now c.in_ok-arguments.arguments.items (seen-outer_parts [] ps) noted c.deref.ensures.value c.in_ok-arguments.ensures in
    calling_goal c.lifted_call.result c.args.scope.now (parts_variables ps) (λ order args. lifted c.args.out.now.next (map (place order) args)) c.deref-4.result.now c.deref-5.result.now c.in_ok-arguments.arguments.items
    chosen c.deref-5.ensures.value c.deref-4.ensures.value c.lifted_call.ensures

pub lift_choice-returns-clause-made : given.lift_choice-returns-clause-made
lift_choice-returns-clause-made t c =
    let w = origin_view c.args.origin.now in
    let n = c.args.out.now.next in
    let ps = parts (map part c.args.written.now) in
    let at : c.len-at.result ≡ length c.args.out.now.definitions.items = omega (arith, c.len-at.ensures) in
    let noted = here_noted (outer_parts (parts (map part c.args.written.now))) c.args.out.now.definitions.items c.len-at.result c.index-inside.result.now at c.index-inside.ensures c.requires.noted in
    let chosen = arguments_noted c.args.scope.now c.index-inside.result.now (outer_parts ps) (parts_variables ps) c.deref.result.now c.in_ok-arguments.arguments.items (seen-outer_parts [] ps) noted c.deref.ensures.value c.in_ok-arguments.ensures in
    let made = nested_made c.args.scope.now (parts_variables ps) (λ args. part_clauses w n args (n + 1) ps) (λ args. made_inside w args (n + 1) ps) c.in_ok-arguments.arguments.items c.deref-2.result.now
    c.args.out.now.definitions.items c.push.new.self.items c.lift_parts.new.out.definitions.items _ c.in_ok-own.own c.len-at.result chosen c.deref-2.ensures.value c.in_ok-push.ensures.items c.in_ok-own.ensures.made at c.in_ok-own.ensures.own in
    IfOk-weaker c.lifted_call.result _ _ (λ g e. made) c.lifted_call.ensures

pub lift_goal-lift_choice-requires : given.lift_goal-lift_choice-requires
lift_goal-lift_choice-requires t c =
    let is = ap goal c.in-Choice.is ∙ goal_choice c.in-Choice.parts ∙ ap (λ xs. choice (parts (map part xs))) (sym c.deref-in-Choice.ensures.value) in
    (omega (arith, c.decreases, ap goal_size is), (c.requires.scope, (rw is at c.requires.room, rw is at c.requires.noted)))

pub lift_goal-lift_collecting-requires : given.lift_goal-lift_collecting-requires
lift_goal-lift_collecting-requires t c =
    let is = ap goal c.in-Collect.is ∙ goal_collect c.in-Collect.collected c.in-Collect.list c.in-Collect.goals
    ∙ ap (λ xs. collect (tree c.in-Collect.collected) (goals (map goal xs)) (tree c.in-Collect.list)) (sym c.deref-in-Collect.ensures.value) in
    (omega (arith, c.decreases, ap goal_size is), (c.requires.scope, (rw is at c.requires.room, rw is at c.requires.noted)))

pub lift_body-lift_goals-requires : given.lift_body-lift_goals-requires
lift_body-lift_goals-requires t c =
    let same = ap (λ xs. goals (map goal xs)) c.deref.ensures.value in
    (omega (arith, c.decreases, ap goals_size same), (c.requires.scope, (rw same c.requires.room, rw same c.requires.noted)))

pub lift_guard_and_body-lift_goals-requires : given.lift_guard_and_body-lift_goals-requires
lift_guard_and_body-lift_goals-requires t c =
    let same = ap (λ xs. goals (map goal xs)) c.deref.ensures.value in
    let gs = goals (map goal c.args.written.now.guard.items) in
    let hs = goals (map goal c.args.written.now.body.items) in
    let room : c.args.out.now.next + choices_in_all gs ≤ 4294967295 = omega (arith, c.requires.room) in
    (omega (arith, c.decreases, ap goals_size same), (c.requires.scope, (rw same room, rw same (noted_front (insides_all gs) (insides_all hs) c.requires.noted))))

pub lift_collecting-lift_collected-requires : given.lift_collecting-lift_collected-requires
lift_collecting-lift_collected-requires t c =
    let lists = outer_collected (tree c.args.collected.now) (goals (map goal c.args.written.now)) in
    let at : c.len-at.result ≡ length c.args.out.now.definitions.items = omega (arith, c.len-at.ensures) in
    let noted = here_noted lists c.args.out.now.definitions.items c.len-at.result c.index-inside.result.now at c.index-inside.ensures c.requires.noted in (
      omega (arith, c.decreases),
      (
        omega (arith, c.requires.room),
        (
          next_noted c.args.out.now.definitions.items c.push.new.self.items _ _ _ c.in_ok-push.ensures.items c.requires.noted,
          ap (λ ls. map (λ v. v.items) ls) c.deref-3.ensures.value ∙ lists_noted c.index-inside.result.now lists noted,
        ),
      ),
    )

pub lift_collecting-index_mut-requires : given.lift_collecting-index_mut-requires
lift_collecting-index_mut-requires t c =
    let at : c.len-at.result ≡ length c.args.out.now.definitions.items = omega (arith, c.len-at.ensures) in
    let room = slot_room clauses_view c.args.out.now.definitions.items c.push.new.self.items c.lift_collected.new.out.definitions.items _ _ c.len-at.result c.in_ok-push.ensures.items c.in_ok-own.ensures.made at in
    omega (arith, room)

pub lift_collecting-returns-clause-goal : given.lift_collecting-returns-clause-goal
lift_collecting-returns-clause-goal t c =
    let x = tree c.args.collected.now in
    let gs = goals (map goal c.args.written.now) in
    let at : c.len-at.result ≡ length c.args.out.now.definitions.items = omega (arith, c.len-at.ensures) in
    let noted = here_noted (outer_collected x gs) c.args.out.now.definitions.items c.len-at.result c.index-inside.result.now at c.index-inside.ensures c.requires.noted in
    let chosen = arguments_noted c.args.scope.now c.index-inside.result.now (outer_collected x gs) (collect_variables x gs) c.deref.result.now c.in_ok-arguments.arguments.items (seen-outer_collected [] x gs) noted c.deref.ensures.value c.in_ok-arguments.ensures in
    calling_goal c.collecting_call.result c.args.scope.now (collect_variables x gs) (λ order args. lifted_collect c.args.out.now.next (map (place order) args) (placed_tree order (tree c.args.list.now))) c.deref-4.result.now c.deref-5.result.now
    c.in_ok-arguments.arguments.items chosen c.deref-5.ensures.value c.deref-4.ensures.value c.collecting_call.ensures

pub lift_collecting-returns-clause-made : given.lift_collecting-returns-clause-made
lift_collecting-returns-clause-made t c =
    let w = origin_view c.args.origin.now in
    let n = c.args.out.now.next in
    let x = tree c.args.collected.now in
    let gs = goals (map goal c.args.written.now) in
    let at : c.len-at.result ≡ length c.args.out.now.definitions.items = omega (arith, c.len-at.ensures) in
    let noted = here_noted (outer_collected x gs) c.args.out.now.definitions.items c.len-at.result c.index-inside.result.now at c.index-inside.ensures c.requires.noted in
    let chosen = arguments_noted c.args.scope.now c.index-inside.result.now (outer_collected x gs) (collect_variables x gs) c.deref.result.now c.in_ok-arguments.arguments.items (seen-outer_collected [] x gs) noted c.deref.ensures.value c.in_ok-arguments.ensures in
    let made = nested_made c.args.scope.now (collect_variables x gs) (λ args. collect_clause w n args (n + 1) x gs ∷ []) (λ args. made_all w (collect_shares args x gs) (n + 1) gs) c.in_ok-arguments.arguments.items c.deref-2.result.now
    c.args.out.now.definitions.items c.push.new.self.items c.lift_collected.new.out.definitions.items _ c.in_ok-own.own c.len-at.result chosen c.deref-2.ensures.value c.in_ok-push.ensures.items c.in_ok-own.ensures.made at c.in_ok-own.ensures.own in
    IfOk-weaker c.collecting_call.result _ _ (λ g e. made) c.collecting_call.ensures

pub lift_collected-bounds-insides-0 : given.lift_collected-bounds-insides-0
lift_collected-bounds-insides-0 t c = one_list c.args.insides.now _ c.requires.insides

pub lift_collected-lift_goals-requires : given.lift_collected-lift_goals-requires
lift_collected-lift_goals-requires t c = (omega (arith, c.decreases), (c.in_ok-scope.ensures.scope, (c.requires.room, c.requires.noted)))

pub lift_collected-returns-clause-own : given.lift_collected-returns-clause-own
lift_collected-returns-clause-own t c =
    let w = origin_view c.args.origin.now in
    let s = c.in_ok-scope.scope in
    let x = tree c.args.collected.now in
    let gs = goals (map goal c.args.written.now) in
    let scoped = collect_scoped s c.args.arguments.now _ x gs c.in_ok-scope.ensures.order c.in_ok-scope.ensures.counts (c.deref.ensures.value ∙ first_list c.args.insides.now _ _ c.index-insides-0.is c.requires.insides) in
    ap (map clause_view) (c.in_ok-push.ensures.items ∙ ap (λ xs. xs ++ c.in_ok-clause.clause ∷ []) c.new-own.ensures.items)
    ∙ ap (λ z. z ∷ []) (c.in_ok-clause.ensures ∙ collecting_same w s c.args.number c.args.arguments.now c.args.out.now.next x gs scoped _ _ c.deref-2.ensures.value c.in_ok-guard.ensures.goals)

pub lift_collected-returns-clause-made : given.lift_collected-returns-clause-made
lift_collected-returns-clause-made t c =
    let w = origin_view c.args.origin.now in
    let s = c.in_ok-scope.scope in
    let x = tree c.args.collected.now in
    let gs = goals (map goal c.args.written.now) in
    let scoped = collect_scoped s c.args.arguments.now _ x gs c.in_ok-scope.ensures.order c.in_ok-scope.ensures.counts (c.deref.ensures.value ∙ first_list c.args.insides.now _ _ c.index-insides-0.is c.requires.insides) in
    c.in_ok-guard.ensures.made ∙ ap (λ ds. definitions_view c.args.out.now ++ ds) (same_made_all w (chosen_of s) (collect_shares c.args.arguments.now x gs) c.args.out.now.next gs scoped.guard)

pub lift_parts-loop-index-init : given.lift_parts-loop-index-init
lift_parts-loop-index-init t c = rw c.new-own.ensures.items (parts_start c.requires.noted)

pub lift_parts-bounds-insides-index : given.lift_parts-bounds-insides-index
lift_parts-bounds-insides-index t c =
    let l : length c.args.insides.now ≡ length c.args.written.now = length-outer_parts c.args.written.now c.args.insides.now c.requires.insides in
    omega (arith, c.loop-index-test.true, c.loop-index.auto.index-end)

pub lift_parts-lift_part-requires : given.lift_parts-lift_part-requires
lift_parts-lift_part-requires t c =
    let within : c.loop-index.index < length c.args.written.now = omega (arith, c.loop-index-test.true, c.loop-index.auto.index-end) in (
      omega (arith, c.decreases, part_within c.args.written.now c.loop-index.index c.index-written-index.result within c.index-written-index.is),
      (
        omega (arith, parts_room c.args.written.now c.loop-index.index c.index-written-index.result within c.index-written-index.is c.loop-index.invariant, c.requires.room),
        (
          parts_noted c.args.written.now c.loop-index.index c.index-written-index.result within c.index-written-index.is c.loop-index.invariant,
          c.deref.ensures.value ∙ outer_at c.args.written.now c.args.insides.now c.loop-index.index c.index-written-index.result c.index-insides-index.result within c.index-written-index.is c.index-insides-index.is c.requires.insides,
        ),
      ),
    )

pub lift_parts-loop-index-preserved : given.lift_parts-loop-index-preserved
lift_parts-loop-index-preserved t c =
    let within : c.loop-index.index < length c.args.written.now = omega (arith, c.loop-index-test.true, c.loop-index.auto.index-end) in
    rw c.in_ok-push.ensures.items
    (parts_turn c.args.written.now c.loop-index.index c.index-written-index.result c.in_ok-clause.clause c.loop-index.own.items within c.index-written-index.is c.loop-index.invariant c.in_ok-clause.ensures.next c.in_ok-clause.ensures.clause c.in_ok-clause.ensures.made)

pub lift_parts-returns-clause-next : given.lift_parts-returns-clause-next
lift_parts-returns-clause-next t c = (parts_done c.args.written.now c.loop-index.index (omega (arith, c.loop-index-test.false, c.loop-index.auto.index-end)) c.loop-index.invariant).next_is

pub lift_parts-returns-clause-own : given.lift_parts-returns-clause-own
lift_parts-returns-clause-own t c = (parts_done c.args.written.now c.loop-index.index (omega (arith, c.loop-index-test.false, c.loop-index.auto.index-end)) c.loop-index.invariant).own_are

pub lift_parts-returns-clause-made : given.lift_parts-returns-clause-made
lift_parts-returns-clause-made t c = (parts_done c.args.written.now c.loop-index.index (omega (arith, c.loop-index-test.false, c.loop-index.auto.index-end)) c.loop-index.invariant).made_are

pub lift_guard_and_body-lift_body-requires : given.lift_guard_and_body-lift_body-requires
lift_guard_and_body-lift_body-requires t c =
    let gs = goals (map goal c.args.written.now.guard.items) in
    let hs = goals (map goal c.args.written.now.body.items) in
    let next : c.lift_goals.new.out.next ≡ c.args.out.now.next + choices_in_all gs = c.in_ok-guard.ensures.next ∙ ap (λ xs. c.args.out.now.next + choices_in_all (goals (map goal xs))) c.deref.ensures.value in
    let made = c.in_ok-guard.ensures.made ∙ ap (λ xs. definitions_view c.args.out.now ++ made_all (origin_view c.args.origin.now) (chosen_of c.args.scope.now) c.args.out.now.next (goals (map goal xs))) c.deref.ensures.value in
    let noted = second_noted (origin_view c.args.origin.now) (chosen_of c.args.scope.now) c.args.out.now.next (definitions_view c.args.out.now) (definitions_view c.lift_goals.new.out) gs hs made c.requires.noted in
    (omega (arith, c.decreases), (c.requires.scope, (omega (arith, c.requires.room, next), noted)))

pub lift_guard_and_body-returns-clause-next : given.lift_guard_and_body-returns-clause-next
lift_guard_and_body-returns-clause-next t c =
    let one = c.in_ok-guard.ensures.next ∙ ap (λ xs. c.args.out.now.next + choices_in_all (goals (map goal xs))) c.deref.ensures.value in
    omega (arith, one, c.in_ok-body.ensures.next)

pub lift_guard_and_body-returns-clause-part : given.lift_guard_and_body-returns-clause-part
lift_guard_and_body-returns-clause-part t c =
    let s = c.args.scope.now in
    let first = c.args.out.now.next in
    let gs = goals (map goal c.args.written.now.guard.items) in
    let hs = goals (map goal c.args.written.now.body.items) in
    let next : c.lift_goals.new.out.next ≡ first + choices_in_all gs = c.in_ok-guard.ensures.next ∙ ap (λ xs. c.args.out.now.next + choices_in_all (goals (map goal xs))) c.deref.ensures.value in
    part_lifted (origin_view c.args.origin.now) (chosen_of s) first c.lift_goals.new.out.next gs hs next s.order.items c.in_ok-guard.guard c.args.written.now.op c.in_ok-body.body
    (c.in_ok-guard.ensures.goals ∙ ap (λ xs. without_all s.order.items (chosen_of s) c.args.out.now.next (goals (map goal xs))) c.deref.ensures.value)
    c.in_ok-body.ensures.goals

pub lift_guard_and_body-returns-clause-made : given.lift_guard_and_body-returns-clause-made
lift_guard_and_body-returns-clause-made t c =
    let w = origin_view c.args.origin.now in
    let s = c.args.scope.now in
    let gs = goals (map goal c.args.written.now.guard.items) in
    let hs = goals (map goal c.args.written.now.body.items) in
    let next : c.lift_goals.new.out.next ≡ c.args.out.now.next + choices_in_all gs = c.in_ok-guard.ensures.next ∙ ap (λ xs. c.args.out.now.next + choices_in_all (goals (map goal xs))) c.deref.ensures.value in
    made_both w (chosen_of s) c.args.out.now.next c.lift_goals.new.out.next gs hs next (definitions_view c.args.out.now) (definitions_view c.lift_goals.new.out) _
    (c.in_ok-guard.ensures.made ∙ ap (λ xs. definitions_view c.args.out.now ++ made_all (origin_view c.args.origin.now) (chosen_of c.args.scope.now) c.args.out.now.next (goals (map goal xs))) c.deref.ensures.value)
    c.in_ok-body.ensures.made

pub lift_part-lift_guard_and_body-requires : given.lift_part-lift_guard_and_body-requires
lift_part-lift_guard_and_body-requires t c = (omega (arith, c.decreases), (c.in_ok-scope.ensures.scope, (c.requires.room, c.requires.noted)))

pub lift_part-returns-clause-next : given.lift_part-returns-clause-next
lift_part-returns-clause-next t c = IfOk-weaker c.lifted_clause.result _ _ (λ x e. c.in_ok-part.ensures.next) c.lifted_clause.ensures.start

pub lift_part-returns-clause-clause : given.lift_part-returns-clause-clause
lift_part-returns-clause-clause t c =
    let w = origin_view c.args.origin.now in
    let s = c.in_ok-scope.scope in
    let gs = goals (map goal c.args.written.now.guard.items) in
    let hs = goals (map goal c.args.written.now.body.items) in
    let scoped = part_scoped s c.args.arguments.now c.args.inside.now gs hs c.in_ok-scope.ensures.order c.in_ok-scope.ensures.counts c.requires.inside in
    let order = c.deref.ensures.value ∙ scoped.order_is in
    answered_clause c.lifted_clause.result c.in_ok-part.part _ _ _ _ _ c.lifted_clause.ensures.head (rw order at c.lifted_clause.ensures.arguments) c.lifted_clause.ensures.part
    (c.in_ok-part.ensures.part ∙ part_same w s _ _ gs hs scoped c.args.out.now.next c.args.written.now.op) c.lifted_clause.ensures.collected (rw order at c.lifted_clause.ensures.names) c.lifted_clause.ensures.start

pub lift_part-returns-clause-made : given.lift_part-returns-clause-made
lift_part-returns-clause-made t c =
    let w = origin_view c.args.origin.now in
    let s = c.in_ok-scope.scope in
    let gs = goals (map goal c.args.written.now.guard.items) in
    let hs = goals (map goal c.args.written.now.body.items) in
    let scoped = part_scoped s c.args.arguments.now c.args.inside.now gs hs c.in_ok-scope.ensures.order c.in_ok-scope.ensures.counts c.requires.inside in
    let made = c.in_ok-part.ensures.made ∙ ap (λ ds. definitions_view c.args.out.now ++ ds) (made_same w s _ _ gs hs scoped c.args.out.now.next) in
    IfOk-weaker c.lifted_clause.result _ _ (λ x e. made) c.lifted_clause.ensures.start
