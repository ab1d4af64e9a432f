use Rattle.std.proofs.Common.{◌≡◌, ◌<◌, List, ◌∷◌, ◌++◌, length, map, refl, ap, ◌∙◌, arith, append_assoc}
use Rattle.akl_syntax.specs.Goals.{goals, parts}
use Rattle.akl_syntax.specs.GoalView.{goal, part}
use Rattle.akl_syntax.specs.declared.source.SourcePart.{SourcePart}
use Rattle.akl_syntax.proofs.PartTurns.{part_is}
use Rattle.akl_lift.specs.Lifting.{local_in, local_in_all, local_in_parts}
use Rattle.akl_lift.proofs.Slots.{added_turn, added_end}
use Rattle.akl_lift.proofs.locals.+locals.Goals as given

part_more : (x : SourcePart) (xs : List SourcePart) → local_in_parts (parts (map part (x ∷ xs))) ≡ (local_in_all (goals (map goal x.guard.items)) ++ local_in_all (goals (map goal x.body.items))) ++ local_in_parts (parts (map part xs))
part_more x xs = ap (λ p. local_in_parts (parts (p ∷ map part xs))) (part_is x)

pub add_locals-loop-goal-preserved : given.add_locals-loop-goal-preserved
add_locals-loop-goal-preserved t c =
    let within : c.loop-goal.goal-index < length c.args.written.now = omega (arith, c.loop-goal-test.true, c.loop-goal.auto.goal-index-end) in
    added_turn (λ xs. local_in_all (goals (map goal xs))) (λ x. local_in (goal x)) c.args.written.now c.loop-goal.goal-index c.goal-item.result c.loop-goal.found.items _ _ (λ x xs. refl) within c.goal-item.is c.in_ok-add_in_goal.ensures c.loop-goal.invariant

pub add_locals-returns : given.add_locals-returns
add_locals-returns t c =
    added_end (λ xs. local_in_all (goals (map goal xs))) c.args.written.now c.loop-goal.goal-index c.loop-goal.found.items _ refl (omega (arith, c.loop-goal-test.false, c.loop-goal.auto.goal-index-end)) c.loop-goal.invariant

pub add_in_parts-loop-part-preserved : given.add_in_parts-loop-part-preserved
add_in_parts-loop-part-preserved t c =
    let within : c.loop-part.part-index < length c.args.written.now = omega (arith, c.loop-part-test.true, c.loop-part.auto.part-index-end) in
    let x : SourcePart = c.part-item.result in
    let guard = c.in_ok-add_locals.ensures ∙ ap (λ xs. c.loop-part.found.items ++ local_in_all (goals (map goal xs))) c.deref.ensures.value in
    let body = c.in_ok-add_locals-2.ensures ∙ ap (λ xs. c.add_locals.new.found.items ++ local_in_all (goals (map goal xs))) c.deref-in-loop-part.ensures.value in
    added_turn (λ xs. local_in_parts (parts (map part xs))) (λ y. local_in_all (goals (map goal y.guard.items)) ++ local_in_all (goals (map goal y.body.items))) c.args.written.now c.loop-part.part-index x c.loop-part.found.items _ _ part_more within c.part-item.is
    (body ∙ ap (λ xs. xs ++ local_in_all (goals (map goal x.body.items))) guard ∙ append_assoc c.loop-part.found.items (local_in_all (goals (map goal x.guard.items))) (local_in_all (goals (map goal x.body.items)))) c.loop-part.invariant

pub add_in_parts-returns : given.add_in_parts-returns
add_in_parts-returns t c =
    added_end (λ xs. local_in_parts (parts (map part xs))) c.args.written.now c.loop-part.part-index c.loop-part.found.items _ refl (omega (arith, c.loop-part-test.false, c.loop-part.auto.part-index-end)) c.loop-part.invariant
