use Rattle.std.proofs.Common.{ℕ, ◌+◌, ◌<◌, Option, sym, ap, ◌∙◌, subst}
use Rattle.std.proofs.lemmas.Result.{on_ok_weaker}
use Rattle.akl_terms.specs.declared.name.Place.{Place}
use Rattle.local_store.specs.Parts.{with_part}
use Rattle.table_laws.specs.Walks.{ListsInside}
use Rattle.table_laws.specs.Writes.{after_tell}
use Rattle.table_laws.specs.Calls.{after_call}
use Rattle.box_tree.specs.declared.step.Step.{Step}
use Rattle.box_tree.specs.Tables.{TableValue, table_of, store_at, Makes}
use Rattle.box_tree.specs.Edits.{Becomes, named_atoms}
use Rattle.box_tree.proofs.LeadsBy.{tell_applies, join_applies}
use Rattle.box_tree.proofs.table.Table.make.Goals as goal

pub returns-in-Tell-clause-made : goal.returns-in-Tell-clause-made
returns-in-Tell-clause-made c =
    let t : TableValue = c.args.self.now in
    let l = c.args.label in
    let g = c.goal_at-goal.result in
    on_ok_weaker c.tell.result (λ b.
    subst (λ (s : Step). Makes t l c.args.others c.args.at c.args.names s c.tell.new.self) (sym c.in-Tell.is)
    (tell_applies t c.tell.new.self l c.args.others c.args.at c.args.names g c.in-Tell.part c.in-Tell.solved c.goal_at-goal.ensures
    (subst (λ (at : Option ℕ). Becomes t c.tell.new.self (after_tell g (with_part (store_at (table_of t) (Place.Goal g)) c.in-Tell.part) at l.worker c.args.names (table_of t))) c.solved_when-solved_at.ensures
    b))) c.tell.ensures.made

pub fail-requires-clause-listed : goal.fail-requires-clause-listed
fail-requires-clause-listed c = subst (ListsInside (table_of c.args.self.now) c.box_at-name.result) (sym c.as_slice.ensures.value) c.in_ok-inside-in-Fail.ensures

pub returns-in_ok-numbers-in-Join-clause-made : goal.returns-in_ok-numbers-in-Join-clause-made
returns-in_ok-numbers-in-Join-clause-made c =
    let t : TableValue = c.args.self.now in
    let l = c.args.label in
    let g = c.goal_at-goal-in-Join.result in
    let x = c.in_ok-numbers-in-Join.numbers in
    let later = ap (λ (v : TableValue). v.steps) c.self.view_is in
    on_ok_weaker c.join.result (λ b.
    subst (λ (s : Step). Makes t l c.args.others c.args.at c.args.names s c.join.new.self) (sym c.in-Join.is)
    (join_applies t c.join.new.self l c.args.others c.args.at c.args.names g c.in-Join.part c.in-Join.solved c.in-Join.goals c.in-Join.told c.in-Join.behind x.promoted x.told x.ended c.goal_at-goal-in-Join.ensures
    (subst (λ (n : ℕ). n < x.promoted) later c.in_ok-numbers-in-Join.ensures.later)
    (c.in_ok-numbers-in-Join.ensures.number ∙ ap (λ (n : ℕ). c.args.others + n + 1) later) c.in_ok-numbers-in-Join.ensures.told c.in_ok-numbers-in-Join.ensures.ended
    (subst (λ (at : Option ℕ). Becomes t c.join.new.self (after_call g (with_part (store_at (table_of t) (Place.Goal g)) c.in-Join.part) at (named_atoms t.program.templates.nodes c.in-Join.goals.items)
    l.worker c.args.names x.promoted x.told x.ended (table_of t))) c.solved_when.ensures b))) c.join.ensures.made
