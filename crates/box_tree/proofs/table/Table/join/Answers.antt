use Rattle.std.proofs.Common.{sym, ap, ◌∙◌, subst}
use Rattle.akl_terms.specs.declared.name.Place.{Place}
use Rattle.local_store.specs.Parts.{with_part}
use Rattle.table_laws.specs.Calls.{after_call}
use Rattle.box_tree.specs.Tables.{TableValue, table_of, store_at}
use Rattle.box_tree.specs.Edits.{Becomes, named_atoms}
use Rattle.box_tree.proofs.Joined.{goals_increase, joined}
use Rattle.box_tree.proofs.Numbers.{raised_later}
use Rattle.box_tree.proofs.table.Table.join.Goals as goal

pub returns-clause-made : goal.returns-clause-made
returns-clause-made c =
    let t : TableValue = c.args.self.now in
    let kept = ap (λ (x : TableValue). x.next) c.drop_alternatives.ensures.rest ∙ ap (λ (x : TableValue). x.next) c.drop_goal.ensures.dropped.rest ∙ ap (λ (x : TableValue). x.next) c.in_ok-join_goals.ensures.joined.rest in
    let raises = raised_later c.args.worker c.args.count c.in_ok-next.next t.next c.drop_alternatives.new.self.next c.raise.new.self.next kept c.in_ok-next.ensures c.raise.ensures.numbers in
    subst (λ (x : TableValue). Becomes t (record x { steps = c.args.numbers.ended }) (after_call c.args.goal (with_part (store_at (table_of t) (Place.Goal c.args.goal)) c.args.told.part) c.args.told.solved_at (named_atoms t.program.templates.nodes c.args.goals.items)
    c.args.worker c.args.count c.args.numbers.promoted c.args.told.number c.args.numbers.ended (table_of t))) (sym (c.self.view_is ∙ c.raise.ensures.rest))
    (joined t c.join_goals.new.self c.drop_goal.new.self c.drop_alternatives.new.self c.args.goal c.in-Some.home c.args.told c.args.goals.items c.args.numbers.promoted c.args.numbers.ended c.args.worker c.args.count c.raise.new.self.next
    c.requires.fresh c.in-Some.ensures (goals_increase t c.requires.run c.in-Some.home) raises c.in_ok-join_goals.ensures.joined c.drop_goal.ensures.dropped c.as_slice.result.now (c.as_slice.ensures.value ∙ c.in_ok-alternatives.ensures) c.drop_alternatives.ensures)
