use Rattle.std.proofs.Common.{◌≡◌, List, [], ◌∷◌, map, length, refl, sym, ◌∙◌, ap, subst, arith}
use Rattle.std.proofs.lemmas.Result.{IfOk-weaker}
use Rattle.akl_terms.specs.declared.name.Name.{Name}
use Rattle.akl_model.specs.declared.item.Item.{Item}
use Rattle.guard_plan.specs.ReadAt.{AreEndsOf, IsReadAt}
use Rattle.guard_plan.proofs.ReadEnough.{by_sets, by_bindings, by_reached}
use Rattle.guard_plan.proofs.reading.reads_of.Goals as goal

only_one : (xs : List Name) → length xs ≡ 1 → (x : Name) × (xs ≡ x ∷ [])
only_one [] e = absurd (omega arith)
only_one (x ∷ []) e = (x, refl)
only_one (x ∷ y ∷ xs) e = absurd (omega arith)

pub returns-then-not-keeps_marks : goal.returns-then-not-keeps_marks
returns-then-not-keeps_marks c = IfOk-weaker c.goal_and_sets.result _ _
    (λ items h. subst (λ (reads : List Item). IsReadAt c.args.view.now c.args.goal c.args.binds.now reads) (sym (h ∙ ap (λ (ns : List Name). Item.Goal c.args.goal ∷ map Item.Goals ns) c.path-boxes.ensures))
    (by_sets c.args.view.now c.args.goal c.requires.place c.args.binds.now)) c.goal_and_sets.ensures

pub returns-then-boxes-eq1 : goal.returns-then-boxes-eq1
returns-then-boxes-eq1 c =
    let one : (x : Name) × (c.path-boxes.result.now ≡ x ∷ []) = only_one c.path-boxes.result.now c.if-boxes-eq1.true in
    IfOk-weaker c.goal_and_bindings.result _ _ (λ items h. by_bindings c.args.view.now c.args.goal c.requires.place one.0 (sym c.path-boxes.ensures ∙ one.1) c.args.binds.now items.items h) c.goal_and_bindings.ensures

pub returns-in-Some : goal.returns-in-Some
returns-in-Some c =
    let ends : AreEndsOf c.args.view.now c.in-Some.ends.items = rw c.in-Some.is at c.in_ok-ends.ensures in
    IfOk-weaker c.goal_and_bindings-in-Some.result _ _ (λ items h. by_reached c.args.view.now c.args.goal c.requires.place
    c.in-Some.ends.items ends c.args.binds.now items.items h) (rw c.as_slice.ensures.value at c.goal_and_bindings-in-Some.ensures)

pub returns-in-None : goal.returns-in-None
returns-in-None c = IfOk-weaker c.goal_and_sets-in-None.result _ _
    (λ items h. subst (λ (reads : List Item). IsReadAt c.args.view.now c.args.goal c.args.binds.now reads) (sym (h ∙ ap (λ (ns : List Name). Item.Goal c.args.goal ∷ map Item.Goals ns) c.path-boxes.ensures))
    (by_sets c.args.view.now c.args.goal c.requires.place c.args.binds.now)) c.goal_and_sets-in-None.ensures
