use Rattle.std.proofs.Common.{◌≡◌, List, map, sym, ap, ◌∙◌, subst}
use Rattle.akl_terms.specs.declared.name.Name.{Name}
use Rattle.table_laws.specs.Writes.{failing_row, names_drawn, changed_box, after_fork}
use Rattle.box_tree.specs.declared.step.NewBox.{NewBox}
use Rattle.box_tree.specs.Tables.{TableValue, table_of, op_held, new_box}
use Rattle.box_tree.specs.Edits.{SetsBoxes, Becomes, Clears, home_if_empty}
use Rattle.box_tree.proofs.Adding.{undone}
use Rattle.box_tree.proofs.Forked.{forked, fresh_boxes, fresh_goals}
use Rattle.box_tree.proofs.Numbers.{raised_later}
use Rattle.box_tree.proofs.table.Table.fork.Goals as goal

pub returns-in_default-put_news-clause-unchanged : goal.returns-in_default-put_news-clause-unchanged
returns-in_default-put_news-clause-unchanged c =
    let own : List Name = names_drawn (map (new_box c.args.self.now.program.templates.nodes) c.args.news.items) in
    let same : c.as_slice-in_default-put_news.result.now ≡ own = c.as_slice-in_default-put_news.ensures.value ∙ c.in_ok-drawn.ensures c.args.self.now.program.templates.nodes
    ∙ ap (λ (ns : List NewBox). names_drawn (map (new_box c.args.self.now.program.templates.nodes) ns)) c.as_slice-3.ensures.value in
    undone c.args.self.now c.put_news.new.self c.drop_entries.new.self own c.in_default-put_news.ensures.only (subst (Clears c.put_news.new.self c.drop_entries.new.self) same c.drop_entries.ensures)
    (fresh_boxes c.args.self.now own c.requires.fresh) (fresh_goals c.args.self.now own c.requires.fresh)

pub returns-clause-made : goal.returns-clause-made
returns-clause-made c =
    let same = c.home_if_empty-failing.ensures ∙ ap (home_if_empty c.in-Some.home c.args.op) c.as_slice.ensures.value in
    let kept = ap (λ (x : TableValue). x.next) c.fail_by.ensures.rest ∙ ap (λ (x : TableValue). x.next) c.make_choice.ensures.rest ∙ ap (λ (x : TableValue). x.next) c.in-Ok.ensures.put.rest in
    let raises = raised_later c.args.worker c.args.count c.in_ok-next.next c.args.self.now.next c.fail_by.new.self.next c.raise.new.self.next kept c.in_ok-next.ensures c.raise.ensures.numbers in
    subst (λ (w : TableValue). Becomes c.args.self.now (record w { steps = c.args.number }) (after_fork c.args.goal (op_held c.args.self.now.program.templates.nodes c.args.op) (map (new_box c.args.self.now.program.templates.nodes) c.args.news.items) c.args.at c.args.worker c.args.count (table_of c.args.self.now)))
    (sym (c.self.view_is ∙ c.raise.ensures.rest))
    (forked c.args.self.now c.put_news.new.self c.make_choice.new.self c.fail_by.new.self c.args.goal c.in-Some.home c.args.op c.args.news.items c.args.at c.args.number c.args.worker c.args.count c.in_ok-names.names.items c.raise.new.self.next
    c.requires.number c.requires.fresh c.in-Some.ensures (c.in_ok-names.ensures ∙ ap (map (λ (n : NewBox). n.name)) c.as_slice-2.ensures.value) raises c.in-Ok.ensures.put c.make_choice.ensures
    (subst (λ o. SetsBoxes c.make_choice.new.self c.fail_by.new.self (changed_box o (failing_row c.args.goal) (table_of c.make_choice.new.self).box_of)) same c.fail_by.ensures))
