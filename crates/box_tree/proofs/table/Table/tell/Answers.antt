use Rattle.std.proofs.Common.{sym, ap, ◌∙◌, subst}
use Rattle.akl_terms.specs.declared.name.Place.{Place}
use Rattle.local_store.specs.Parts.{with_part}
use Rattle.table_laws.specs.Writes.{after_tell, changed_box}
use Rattle.box_tree.specs.Tables.{TableValue, table_of, store_at}
use Rattle.box_tree.specs.Edits.{SetsBoxes, Becomes, part_row}
use Rattle.box_tree.proofs.Joined.{tells}
use Rattle.box_tree.proofs.Numbers.{raised_later}
use Rattle.box_tree.proofs.table.Table.tell.Goals as goal

pub returns-clause-made : goal.returns-clause-made
returns-clause-made c =
    let t : TableValue = c.args.self.now in
    let kept = ap (λ (x : TableValue). x.next) c.drop_goal.ensures.dropped.rest ∙ ap (λ (x : TableValue). x.next) c.in_ok-tell_box.ensures.told.rest in
    let raises = raised_later c.args.worker c.args.count c.in_ok-next.next t.next c.drop_goal.new.self.next c.raise.new.self.next kept c.in_ok-next.ensures c.raise.ensures.numbers in
    subst (λ (x : TableValue). Becomes t (record x { steps = c.args.told.number }) (after_tell c.args.goal (with_part (store_at (table_of t) (Place.Goal c.args.goal)) c.args.told.part) c.args.told.solved_at c.args.worker c.args.count (table_of t))) (sym (c.self.view_is ∙ c.raise.ensures.rest))
    (tells t c.tell_box.new.self c.drop_goal.new.self c.args.goal c.args.told c.args.worker c.args.count c.raise.new.self.next c.requires raises
    (subst (λ o. SetsBoxes t c.tell_box.new.self (changed_box o (part_row c.args.goal c.args.told c.args.told.number) (table_of t).box_of)) c.home_of-home.ensures c.in_ok-tell_box.ensures.told) c.drop_goal.ensures.dropped)
