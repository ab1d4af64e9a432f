use Rattle.std.proofs.Common.{◌≡◌, List, Some, refl, sym, ap, subst, ◌∙◌}
use Rattle.std.specs.Prelude.{get_or}
use Rattle.akl_terms.specs.declared.name.Name.{Name}
use Rattle.akl_model.specs.Config.{IsIn}
use Rattle.box_tree.specs.Tables.{TableValue, table_of}
use Rattle.box_tree.specs.Insides.{candidate_at}
use Rattle.place_steps.proofs.Among.{in_at}
use Rattle.place_steps.proofs.candidates.candidate_if.Goals as goal

pub returns-then-eq : goal.returns-then-eq
returns-then-eq c =
    let none : Name = record { worker = 0; number = 0 } in
    let items : List Name = c.deref-goal-items.result.now in
    let x : Name = get_or items c.loop-goal.goal-index none in
    let found : candidate_at (table_of c.args.core.now.table) ((table_of c.args.core.now.table).goal_of x) ≡ Some c.in-Some.found =
    ap (λ (t : TableValue). candidate_at (table_of t) ((table_of t).goal_of x)) (sym c.table-in-loop-goal.ensures.table) ∙ sym c.candidate_at.ensures ∙ c.in-Some.is in
    (x, subst (IsIn x) c.loop-goal.invariant (in_at items c.loop-goal.goal-index x none c.loop-goal-test.true refl), found)
