use Rattle.std.proofs.Common.{◌≡◌, ◌<◌, ◌++◌, ◌∷◌, [], length, map, sym, ap, ◌∙◌, arith}
use Rattle.std.specs.List.{concat}
use Rattle.std.proofs.lemmas.Result.{on_ok_weaker}
use Rattle.term_syntax.specs.View.{tree}
use Rattle.term_syntax.specs.Variables.{tree_variables}
use Rattle.akl_syntax.specs.Goals.{goals, parts}
use Rattle.akl_syntax.specs.GoalView.{goal, part}
use Rattle.akl_lift.specs.declared.noting.Inside.{Inside}
use Rattle.akl_lift.specs.Noting.{distinct, outer_all, outer_parts, outer_collected, inside_view, insides_all, insides_parts}
use Rattle.akl_lift.proofs.Slots.{slot_set, both_added}
use Rattle.akl_lift.proofs.Notes.{outer_part, noted_same, notes_goals_turn, notes_goals_end, notes_parts_turn, notes_parts_end}
use Rattle.akl_lift.proofs.noting.+noting.Goals as given

pub note_goals-loop-goal-preserved : given.note_goals-loop-goal-preserved
note_goals-loop-goal-preserved t c =
    let within : c.loop-goal.goal-index < length c.args.written.now = omega (arith, c.loop-goal-test.true, c.loop-goal.auto.goal-index-end) in
    notes_goals_turn c.args.written.now c.loop-goal.goal-index c.goal-item.result within c.goal-item.is c.loop-goal.invariant c.in_ok-note_goal.ensures.found c.in_ok-note_goal.ensures.noted

pub note_goals-returns-clause-found : given.note_goals-returns-clause-found
note_goals-returns-clause-found t c = (notes_goals_end c.args.written.now c.loop-goal.goal-index (omega (arith, c.loop-goal-test.false, c.loop-goal.auto.goal-index-end)) c.loop-goal.invariant).found_are

pub note_goals-returns-clause-noted : given.note_goals-returns-clause-noted
note_goals-returns-clause-noted t c = (notes_goals_end c.args.written.now c.loop-goal.goal-index (omega (arith, c.loop-goal-test.false, c.loop-goal.auto.goal-index-end)) c.loop-goal.invariant).noted_are

pub note_choice-returns-clause-found : given.note_choice-returns-clause-found
note_choice-returns-clause-found t c =
    let seen = c.deref.ensures.value ∙ c.in_ok-inside.ensures.variables ∙ ap (λ ls. distinct (concat ls)) c.in_ok-parts.ensures.parts in
    c.in_ok-add_all.ensures ∙ ap (λ xs. c.args.found.now.items ++ xs) seen

pub note_choice-returns-clause-noted : given.note_choice-returns-clause-noted
note_choice-returns-clause-noted t c =
    let at : c.len-at.result ≡ length c.args.noted.now.items = omega (arith, c.len-at.ensures) in
    let found : Inside = c.in_ok-inside.inside in
    let lists = ap (map (λ v. v.items)) c.in_ok-inside.ensures.parts ∙ c.in_ok-parts.ensures.parts in
    let seen : found.variables.items ≡ distinct (concat (map (λ v. v.items) found.parts.items)) = c.in_ok-inside.ensures.variables ∙ ap (λ ls. distinct (concat (map (λ v. v.items) ls))) (sym c.in_ok-inside.ensures.parts) in
    slot_set inside_view c.args.noted.now.items c.push.new.self.items c.note_parts.new.noted.items _ found (insides_parts (parts (map part c.args.written.now))) c.len-at.result c.in_ok-push.ensures.items c.in_ok-parts.ensures.noted at
    ∙ ap (λ z. map inside_view c.args.noted.now.items ++ z ∷ insides_parts (parts (map part c.args.written.now))) (noted_same found (outer_parts (parts (map part c.args.written.now))) lists seen)

pub note_collecting-returns-clause-found : given.note_collecting-returns-clause-found
note_collecting-returns-clause-found t c =
    let seen = c.deref.ensures.value ∙ c.in_ok-inside.ensures.variables ∙ ap (λ ls. distinct (concat ls)) c.in_ok-parts.ensures.parts in
    both_added c.add_term.result _ _ _ _ _ (c.in_ok-add_all.ensures ∙ ap (λ xs. c.args.found.now.items ++ xs) seen) c.add_term.ensures

pub note_collecting-returns-clause-noted : given.note_collecting-returns-clause-noted
note_collecting-returns-clause-noted t c =
    let inner = goals (map goal c.args.written.now) in
    let lists = outer_collected (tree c.args.collected.now) (goals (map goal c.args.written.now)) in
    let at : c.len-at.result ≡ length c.args.noted.now.items = omega (arith, c.len-at.ensures) in
    let found : Inside = c.in_ok-inside.inside in
    let are = ap (map (λ v. v.items)) c.in_ok-inside.ensures.parts ∙ c.in_ok-parts.ensures.parts in
    let seen : found.variables.items ≡ distinct (concat (map (λ v. v.items) found.parts.items)) = c.in_ok-inside.ensures.variables ∙ ap (λ ls. distinct (concat (map (λ v. v.items) ls))) (sym c.in_ok-inside.ensures.parts) in
    let noted = slot_set inside_view c.args.noted.now.items c.push.new.self.items c.note_collected.new.noted.items _ found (insides_all inner) c.len-at.result c.in_ok-push.ensures.items c.in_ok-parts.ensures.noted at
    ∙ ap (λ z. map inside_view c.args.noted.now.items ++ z ∷ insides_all inner) (noted_same found lists are seen) in
    on_ok_weaker c.add_term.result (λ e. noted) c.add_term.ensures

pub note_collected-returns-clause-parts : given.note_collected-returns-clause-parts
note_collected-returns-clause-parts t c =
    let one = c.in_ok-add_term.ensures ∙ ap (λ xs. xs ++ tree_variables (tree c.args.collected.now)) c.new-found.ensures.items in
    let all = c.in_ok-note_goals.ensures.found ∙ ap (λ xs. xs ++ outer_all (goals (map goal c.args.written.now))) one in
    ap (map (λ l. l.items)) (c.in_ok-push.ensures.items ∙ ap (λ xs. xs ++ c.note_goals.new.found ∷ []) c.new-lists.ensures.items) ∙ ap (λ xs. xs ∷ []) all

pub note_collected-returns-clause-noted : given.note_collected-returns-clause-noted
note_collected-returns-clause-noted t c = c.in_ok-note_goals.ensures.noted

pub note_parts-loop-part-preserved : given.note_parts-loop-part-preserved
note_parts-loop-part-preserved t c =
    let within : c.loop-part.part-index < length c.args.written.now = omega (arith, c.loop-part-test.true, c.loop-part.auto.part-index-end) in
    let found = c.in_ok-note_part.ensures.found ∙ ap (λ xs. xs ++ outer_part c.part-item.result) c.new-found.ensures.items in
    rw c.in_ok-push.ensures.items (notes_parts_turn c.args.written.now c.loop-part.part-index c.part-item.result c.loop-part.lists.items c.note_part.new.found within c.part-item.is c.loop-part.invariant found c.in_ok-note_part.ensures.noted)

pub note_parts-returns-clause-parts : given.note_parts-returns-clause-parts
note_parts-returns-clause-parts t c = (notes_parts_end c.args.written.now c.loop-part.part-index (omega (arith, c.loop-part-test.false, c.loop-part.auto.part-index-end)) c.loop-part.invariant).lists_are

pub note_parts-returns-clause-noted : given.note_parts-returns-clause-noted
note_parts-returns-clause-noted t c = (notes_parts_end c.args.written.now c.loop-part.part-index (omega (arith, c.loop-part-test.false, c.loop-part.auto.part-index-end)) c.loop-part.invariant).noted_are

pub note_part-returns-clause-found : given.note_part-returns-clause-found
note_part-returns-clause-found t c =
    both_added c.note_goals-2.result _ _ _ _ _ (rw c.deref.ensures.value at c.in_ok-note_goals.ensures.found) (rw c.deref-2.ensures.value at c.note_goals-2.ensures.found)

pub note_part-returns-clause-noted : given.note_part-returns-clause-noted
note_part-returns-clause-noted t c =
    both_added c.note_goals-2.result _ _ _ _ _ (rw c.deref.ensures.value at c.in_ok-note_goals.ensures.noted) (rw c.deref-2.ensures.value at c.note_goals-2.ensures.noted)
