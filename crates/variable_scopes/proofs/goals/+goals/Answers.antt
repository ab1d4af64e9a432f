use Rattle.std.proofs.Common.{◌≡◌, ◌<◌, ◌++◌, List, ℕ, length, map, refl, ap, sym, ◌∙◌, arith}
use Rattle.term_syntax.specs.View.{tree}
use Rattle.term_syntax.specs.Variables.{tree_variables}
use Rattle.akl_syntax.specs.Goals.{goals}
use Rattle.akl_syntax.specs.GoalView.{goal}
use Rattle.akl_syntax.specs.Sizes.{goal_size, goals_size}
use Rattle.akl_syntax.specs.Variables.{goals_variables}
use Rattle.variable_scopes.specs.Numbering.{state}
use Rattle.variable_scopes.proofs.Numbers.{going_start, going_turn, going_room, below_after, below_left, below_right, numbered_both}
use Rattle.variable_scopes.proofs.GoalLists.{one_spells, one_holds, one_shapes, goals_below, goals_shaped, goals_done, goal_in_all, part_spells, part_holds, part_shapes, same_shapes, parts_below, parts_shaped, parts_done, part_in_all}
use Rattle.variable_scopes.proofs.Collects.{collect_size, inside_below, result_below, collect_numbers, lifted_arguments_below, lifted_result_below, lifted_numbers, below_entered, named_spellings, inside_numbers}
use Rattle.variable_scopes.proofs.goals.+goals.Goals as given

-- ---- goals
pub numbered_goals-loop-goal-init : given.numbered_goals-loop-goal-init
numbered_goals-loop-goal-init t c = rw c.new-found.ensures.items (going_start one_spells one_holds one_shapes _ _ (goals_below _ _ c.requires))

pub numbered_goals-numbered_goal-requires : given.numbered_goals-numbered_goal-requires
numbered_goals-numbered_goal-requires t c =
    let within : c.loop-goal.goal-index < length c.args.written.now = omega (arith, c.loop-goal-test.true, c.loop-goal.auto.goal-index-end) in
    (omega (arith, goal_in_all c.args.written.now c.loop-goal.goal-index c.goal-item.result within c.goal-item.is), going_room one_spells one_holds one_shapes c.args.written.now c.loop-goal.goal-index c.goal-item.result within c.goal-item.is c.loop-goal.invariant)

pub numbered_goals-loop-goal-preserved : given.numbered_goals-loop-goal-preserved
numbered_goals-loop-goal-preserved t c =
    let within : c.loop-goal.goal-index < length c.args.written.now = omega (arith, c.loop-goal-test.true, c.loop-goal.auto.goal-index-end) in
    rw c.in_ok-push.ensures.items
    (going_turn one_spells one_holds one_shapes c.args.written.now c.loop-goal.goal-index c.goal-item.result c.in_ok-next.next within c.goal-item.is c.in_ok-next.ensures.shape c.in_ok-next.ensures.numbers c.loop-goal.invariant)

pub numbered_goals-returns-clause-shape : given.numbered_goals-returns-clause-shape
numbered_goals-returns-clause-shape t c = goals_shaped c.args.written.now c.loop-goal.goal-index (omega (arith, c.loop-goal-test.false, c.loop-goal.auto.goal-index-end)) c.loop-goal.invariant

pub numbered_goals-returns-clause-numbers : given.numbered_goals-returns-clause-numbers
numbered_goals-returns-clause-numbers t c = goals_done c.args.written.now c.loop-goal.goal-index (omega (arith, c.loop-goal-test.false, c.loop-goal.auto.goal-index-end)) c.loop-goal.invariant

-- ---- a collecting goal
pub numbered_goal-numbered_inside-requires : given.numbered_goal-numbered_inside-requires
numbered_goal-numbered_inside-requires t c =
    let size = ap (λ z. goal_size (goal z)) c.in-Collect.is ∙ collect_size c.in-Collect.collected c.in-Collect.result c.in-Collect.goals in
    let same = ap (λ z. goals_size (goals (map goal z))) c.deref-in-Collect.ensures.value in
    (omega (arith, size, same), rw c.deref-in-Collect.ensures.value (inside_below _ c.in-Collect.collected c.in-Collect.result c.in-Collect.goals (rw c.in-Collect.is at c.requires)))

pub numbered_goal-numbered_term-requires : given.numbered_goal-numbered_term-requires
numbered_goal-numbered_term-requires t c =
    below_after _ c.in_ok-collected-in-Collect.ensures.numbers (result_below _ c.in-Collect.collected c.in-Collect.result c.in-Collect.goals (rw c.in-Collect.is at c.requires))

pub numbered_goal-returns-in_ok-result-in-Collect-clause-numbers : given.numbered_goal-returns-in_ok-result-in-Collect-clause-numbers
numbered_goal-returns-in_ok-result-in-Collect-clause-numbers t c =
    rw c.in-Collect.is
    (collect_numbers c.in-Collect.collected c.in_ok-collected-in-Collect.collected c.in-Collect.result c.in_ok-result-in-Collect.result c.in-Collect.goals c.in_ok-collected-in-Collect.goals
    (rw c.deref-in-Collect.ensures.value at c.in_ok-collected-in-Collect.ensures.numbers) c.in_ok-result-in-Collect.ensures.numbers)

pub numbered_goal-numbered_all-requires-in-LiftedCollect : given.numbered_goal-numbered_all-requires-in-LiftedCollect
numbered_goal-numbered_all-requires-in-LiftedCollect t c =
    rw c.deref-in-LiftedCollect.ensures.value (lifted_arguments_below _ c.in-LiftedCollect.number c.in-LiftedCollect.arguments c.in-LiftedCollect.result (rw c.in-LiftedCollect.is at c.requires))

pub numbered_goal-numbered_term-requires-in-LiftedCollect : given.numbered_goal-numbered_term-requires-in-LiftedCollect
numbered_goal-numbered_term-requires-in-LiftedCollect t c =
    below_after _ c.in_ok-arguments-in-LiftedCollect.ensures.numbers (lifted_result_below _ c.in-LiftedCollect.number c.in-LiftedCollect.arguments c.in-LiftedCollect.result (rw c.in-LiftedCollect.is at c.requires))

pub numbered_goal-returns-in_ok-result-in-LiftedCollect-clause-numbers : given.numbered_goal-returns-in_ok-result-in-LiftedCollect-clause-numbers
numbered_goal-returns-in_ok-result-in-LiftedCollect-clause-numbers t c =
    rw c.in-LiftedCollect.is
    (lifted_numbers c.in-LiftedCollect.number c.in-LiftedCollect.arguments c.in_ok-arguments-in-LiftedCollect.arguments c.in-LiftedCollect.result c.in_ok-result-in-LiftedCollect.result
    (rw c.deref-in-LiftedCollect.ensures.value at c.in_ok-arguments-in-LiftedCollect.ensures.numbers) c.in_ok-result-in-LiftedCollect.ensures.numbers)

-- ---- inside of it
pub numbered_inside-named-requires : given.numbered_inside-named-requires
numbered_inside-named-requires t c =
    let same : c.deref.result.now ≡ tree_variables (tree c.args.collected.now) = c.deref.ensures.value ∙ c.in_ok-add_term.ensures ∙ ap (λ (z : List ℕ). z ++ tree_variables (tree c.args.collected.now)) c.new-spellings.ensures.items in
    rw same (below_left _ (tree_variables (tree c.args.collected.now)) _ c.requires)

pub numbered_inside-enter-requires : given.numbered_inside-enter-requires
numbered_inside-enter-requires t c =
    let same : c.deref-2.result.now ≡ tree_variables (tree c.args.collected.now) = c.deref-2.ensures.value ∙ c.in_ok-add_term.ensures ∙ ap (λ (z : List ℕ). z ++ tree_variables (tree c.args.collected.now)) c.new-spellings.ensures.items in
    rw same (below_left _ (tree_variables (tree c.args.collected.now)) _ c.requires)

pub numbered_inside-numbered_term-requires : given.numbered_inside-numbered_term-requires
numbered_inside-numbered_term-requires t c = below_entered (state c.args.numbering.now) c.deref-2.result.now _ c.enter.ensures (below_left _ (tree_variables (tree c.args.collected.now)) _ c.requires)

pub numbered_inside-numbered_goals-requires : given.numbered_inside-numbered_goals-requires
numbered_inside-numbered_goals-requires t c =
    (omega arith, below_after _ c.in_ok-collected.ensures.numbers (below_entered (state c.args.numbering.now) c.deref-2.result.now _ c.enter.ensures (below_right _ (tree_variables (tree c.args.collected.now)) _ c.requires)))

pub numbered_inside-leave-requires : given.numbered_inside-leave-requires
numbered_inside-leave-requires t c =
    let same : c.deref.result.now ≡ tree_variables (tree c.args.collected.now) = c.deref.ensures.value ∙ c.in_ok-add_term.ensures ∙ ap (λ (z : List ℕ). z ++ tree_variables (tree c.args.collected.now)) c.new-spellings.ensures.items in
    let locals = below_left _ (tree_variables (tree c.args.collected.now)) _ c.requires in
    let inside = below_after _ c.in_ok-goals.ensures.numbers (below_after _ c.in_ok-collected.ensures.numbers (below_entered (state c.args.numbering.now) c.deref-2.result.now _ c.enter.ensures locals)) in
    rw (c.deref-3.ensures.value, c.in_ok-outside.ensures, named_spellings (state c.args.numbering.now) c.deref.result.now, same) inside

pub numbered_inside-returns-clause-numbers : given.numbered_inside-returns-clause-numbers
numbered_inside-returns-clause-numbers t c =
    let same : c.deref.result.now ≡ tree_variables (tree c.args.collected.now) = c.deref.ensures.value ∙ c.in_ok-add_term.ensures ∙ ap (λ (z : List ℕ). z ++ tree_variables (tree c.args.collected.now)) c.new-spellings.ensures.items in
    let again : c.deref-2.result.now ≡ c.deref.result.now = c.deref-2.ensures.value ∙ sym c.deref.ensures.value in
    inside_numbers (tree_variables (tree c.args.collected.now)) (rw (again, same) at c.enter.ensures) c.in_ok-collected.ensures.numbers c.in_ok-goals.ensures.numbers (rw (c.deref-3.ensures.value, c.in_ok-outside.ensures, same) at c.leave.ensures)

-- ---- parts
pub numbered_parts-loop-part-init : given.numbered_parts-loop-part-init
numbered_parts-loop-part-init t c = rw c.new-found.ensures.items (going_start part_spells part_holds part_shapes _ _ (parts_below _ _ c.requires))

pub numbered_parts-numbered_goals-requires : given.numbered_parts-numbered_goals-requires
numbered_parts-numbered_goals-requires t c =
    let within : c.loop-part.part-index < length c.args.written.now = omega (arith, c.loop-part-test.true, c.loop-part.auto.part-index-end) in
    let room = going_room part_spells part_holds part_shapes c.args.written.now c.loop-part.part-index c.part-item.result within c.part-item.is c.loop-part.invariant in
    let same = ap (λ z. goals_size (goals (map goal z))) c.deref.ensures.value in
    (omega (arith, same, part_in_all c.args.written.now c.loop-part.part-index c.part-item.result within c.part-item.is), rw c.deref.ensures.value (below_left _ (goals_variables (goals (map goal c.part-item.result.guard.items))) _ room))

pub numbered_parts-numbered_goals-requires-in-loop-part : given.numbered_parts-numbered_goals-requires-in-loop-part
numbered_parts-numbered_goals-requires-in-loop-part t c =
    let within : c.loop-part.part-index < length c.args.written.now = omega (arith, c.loop-part-test.true, c.loop-part.auto.part-index-end) in
    let room = going_room part_spells part_holds part_shapes c.args.written.now c.loop-part.part-index c.part-item.result within c.part-item.is c.loop-part.invariant in
    let same = ap (λ z. goals_size (goals (map goal z))) c.deref-in-loop-part.ensures.value in (
      omega (arith, same, part_in_all c.args.written.now c.loop-part.part-index c.part-item.result within c.part-item.is),
      rw c.deref-in-loop-part.ensures.value (below_after _ c.in_ok-guard.ensures.numbers (below_right _ (goals_variables (goals (map goal c.part-item.result.guard.items))) _ room)),
    )

pub numbered_parts-loop-part-preserved : given.numbered_parts-loop-part-preserved
numbered_parts-loop-part-preserved t c =
    let within : c.loop-part.part-index < length c.args.written.now = omega (arith, c.loop-part-test.true, c.loop-part.auto.part-index-end) in
    rw c.in_ok-push.ensures.items
    (going_turn part_spells part_holds part_shapes c.args.written.now c.loop-part.part-index c.part-item.result _ within c.part-item.is
    (same_shapes (rw c.deref.ensures.value at c.in_ok-guard.ensures.shape) refl (rw c.deref-in-loop-part.ensures.value at c.in_ok-body.ensures.shape))
    (numbered_both (rw c.deref.ensures.value at c.in_ok-guard.ensures.numbers) (rw c.deref-in-loop-part.ensures.value at c.in_ok-body.ensures.numbers)) c.loop-part.invariant)

pub numbered_parts-returns-clause-shape : given.numbered_parts-returns-clause-shape
numbered_parts-returns-clause-shape t c = parts_shaped c.args.written.now c.loop-part.part-index (omega (arith, c.loop-part-test.false, c.loop-part.auto.part-index-end)) c.loop-part.invariant

pub numbered_parts-returns-clause-numbers : given.numbered_parts-returns-clause-numbers
numbered_parts-returns-clause-numbers t c = parts_done c.args.written.now c.loop-part.part-index (omega (arith, c.loop-part-test.false, c.loop-part.auto.part-index-end)) c.loop-part.invariant
