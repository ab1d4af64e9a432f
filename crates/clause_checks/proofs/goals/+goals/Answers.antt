use Rattle.std.proofs.Common.{◌≡◌, ℕ, ◌+◌, ◌<◌, List, ◌∷◌, ◌++◌, length, map, drop, get_or, sym, ap, ◌∙◌, arith, append_assoc, append-nil}
use Rattle.akl_syntax.specs.Goals.{goals, parts}
use Rattle.akl_syntax.specs.GoalView.{goal, part}
use Rattle.akl_syntax.specs.declared.source.SourceGoal.{SourceGoal}
use Rattle.akl_syntax.specs.declared.source.SourcePart.{SourcePart}
use Rattle.akl_syntax.proofs.PartTurns.{part_is}
use Rattle.clause_checks.specs.Within.{goals_of, goals_of_all, goals_of_parts}
use Rattle.clause_checks.proofs.Lists.{drop_front, drop_none}
use Rattle.clause_checks.proofs.goals.+goals.Goals as given

-- a list grows by what the next of those that are left adds
behind : {A : Type 0} (found more left rest all next : List A) → next ≡ found ++ more → left ≡ more ++ rest → found ++ left ≡ all → next ++ rest ≡ all
behind found more left rest all next e g s = ap (λ xs. xs ++ rest) e ∙ append_assoc found more rest ∙ sym (ap (λ xs. found ++ xs) g) ∙ s

goals_left : (xs : List SourceGoal) (i : ℕ) (x : SourceGoal) → i < length xs → x ≡ get_or xs i x → goals_of_all (goals (map goal (drop i xs))) ≡ goals_of (goal x) ++ goals_of_all (goals (map goal (drop (i + 1) xs)))
goals_left xs i x h e = ap (λ ys. goals_of_all (goals (map goal ys))) (drop_front xs i x h e)

parts_left : (xs : List SourcePart) (i : ℕ) (x : SourcePart) → i < length xs → x ≡ get_or xs i x
    → goals_of_parts (parts (map part (drop i xs))) ≡ (goals_of_all (goals (map goal x.guard.items)) ++ goals_of_all (goals (map goal x.body.items))) ++ goals_of_parts (parts (map part (drop (i + 1) xs)))
parts_left xs i x h e = ap (λ ys. goals_of_parts (parts (map part ys))) (drop_front xs i x h e) ∙ ap (λ p. goals_of_parts (parts (p ∷ map part (drop (i + 1) xs)))) (part_is x)

pub add_goals-loop-goal-preserved : given.add_goals-loop-goal-preserved
add_goals-loop-goal-preserved t c =
    let within : c.loop-goal.goal-index < length c.args.written.now = omega (arith, c.loop-goal-test.true, c.loop-goal.auto.goal-index-end) in
    behind _ _ _ _ _ _ c.in_ok-add_goal.ensures (goals_left c.args.written.now c.loop-goal.goal-index c.goal-item.result within c.goal-item.is) c.loop-goal.invariant

pub add_goals-returns : given.add_goals-returns
add_goals-returns t c =
    sym (append-nil _) ∙ sym (ap (λ xs. map (λ g. goal g.now) c.loop-goal.found.items ++ goals_of_all (goals (map goal xs))) (drop_none c.args.written.now c.loop-goal.goal-index (omega (arith, c.loop-goal-test.false, c.loop-goal.auto.goal-index-end))))
    ∙ c.loop-goal.invariant

pub add_parts-loop-part-preserved : given.add_parts-loop-part-preserved
add_parts-loop-part-preserved t c =
    let within : c.loop-part.part-index < length c.args.written.now = omega (arith, c.loop-part-test.true, c.loop-part.auto.part-index-end) in
    let x : SourcePart = c.part-item.result in
    let guard = c.in_ok-add_goals.ensures ∙ ap (λ xs. map (λ g. goal g.now) c.loop-part.found.items ++ goals_of_all (goals (map goal xs))) c.deref.ensures.value in
    let body = c.in_ok-add_goals-2.ensures ∙ ap (λ xs. map (λ g. goal g.now) c.add_goals.new.found.items ++ goals_of_all (goals (map goal xs))) c.deref-in-loop-part.ensures.value in
    behind _ _ _ _ _ _ (body ∙ ap (λ xs. xs ++ goals_of_all (goals (map goal x.body.items))) guard ∙ append_assoc _ (goals_of_all (goals (map goal x.guard.items))) (goals_of_all (goals (map goal x.body.items))))
    (parts_left c.args.written.now c.loop-part.part-index x within c.part-item.is) c.loop-part.invariant

pub add_parts-returns : given.add_parts-returns
add_parts-returns t c =
    sym (append-nil _) ∙ sym (ap (λ xs. map (λ g. goal g.now) c.loop-part.found.items ++ goals_of_parts (parts (map part xs))) (drop_none c.args.written.now c.loop-part.part-index (omega (arith, c.loop-part-test.false, c.loop-part.auto.part-index-end))))
    ∙ c.loop-part.invariant
