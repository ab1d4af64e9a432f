use Rattle.std.proofs.Common.{◌≡◌, map, refl, sym, ap, ◌∙◌, subst}
use Rattle.table_laws.specs.Walks.{alternatives_of}
use Rattle.table_laws.specs.Writes.{less_name, Splits}
use Rattle.box_tree.specs.Tables.{TableValue, table_of, box_copy}
use Rattle.box_tree.specs.Drops.{DropsBoxes}
use Rattle.box_tree.proofs.Halved.{stays_held, splits_by}
use Rattle.box_tree.proofs.Numbers.{raised_later}
use Rattle.box_tree.proofs.table.Table.split.Goals as goal

pub returns-clause-program : goal.returns-clause-program
returns-clause-program c = subst (λ (x : TableValue). x.program ≡ c.args.self.now.program) (sym (c.self.view_is ∙ c.raise.ensures.rest))
    (ap (λ (x : TableValue). x.program) c.drop_boxes.ensures.rest ∙ stays_held (λ (x : TableValue). x.program) (λ t goals roots number. refl) c.make_choice.new.self c.hold.new.self c.args.number c.in_ok-held.held c.hold.ensures
    ∙ ap (λ (x : TableValue). x.program) c.make_choice.ensures.rest ∙ ap (λ (x : TableValue). x.program) c.in_ok-add_copies.ensures.put.rest)

pub returns-clause-query : goal.returns-clause-query
returns-clause-query c = subst (λ (x : TableValue). x.query ≡ c.args.self.now.query) (sym (c.self.view_is ∙ c.raise.ensures.rest))
    (ap (λ (x : TableValue). x.query) c.drop_boxes.ensures.rest ∙ stays_held (λ (x : TableValue). x.query) (λ t goals roots number. refl) c.make_choice.new.self c.hold.new.self c.args.number c.in_ok-held.held c.hold.ensures
    ∙ ap (λ (x : TableValue). x.query) c.make_choice.ensures.rest ∙ ap (λ (x : TableValue). x.query) c.in_ok-add_copies.ensures.put.rest)

pub returns-clause-marks : goal.returns-clause-marks
returns-clause-marks c = subst (λ (x : TableValue). x.marks ≡ c.args.self.now.marks) (sym (c.self.view_is ∙ c.raise.ensures.rest))
    (ap (λ (x : TableValue). x.marks) c.drop_boxes.ensures.rest ∙ stays_held (λ (x : TableValue). x.marks) (λ t goals roots number. refl) c.make_choice.new.self c.hold.new.self c.args.number c.in_ok-held.held c.hold.ensures
    ∙ ap (λ (x : TableValue). x.marks) c.make_choice.ensures.rest ∙ ap (λ (x : TableValue). x.marks) c.in_ok-add_copies.ensures.put.rest)

pub returns-clause-splits : goal.returns-clause-splits
returns-clause-splits c =
    let t : TableValue = c.args.self.now in
    let kept = ap (λ (x : TableValue). x.next) c.drop_boxes.ensures.rest ∙ stays_held (λ (x : TableValue). x.next) (λ t goals roots number. refl) c.make_choice.new.self c.hold.new.self c.args.number c.in_ok-held.held c.hold.ensures
    ∙ ap (λ (x : TableValue). x.next) c.make_choice.ensures.rest ∙ ap (λ (x : TableValue). x.next) c.in_ok-add_copies.ensures.put.rest in
    let raises = raised_later c.args.worker c.args.count c.in_ok-next.next t.next c.drop_boxes.new.self.next c.raise.new.self.next kept c.in_ok-next.ensures c.raise.ensures.numbers in
    subst (λ (x : TableValue). Splits (table_of t) (table_of (record x { steps = c.args.number })) c.args.name c.args.alternative c.args.copy (map (box_copy t.program.templates.nodes) c.args.copies.items) c.args.at c.args.worker c.args.count)
    (sym (c.self.view_is ∙ c.raise.ensures.rest))
    (splits_by t c.add_copies.new.self c.make_choice.new.self c.hold.new.self c.args.name c.args.alternative c.in-Some.choice c.args.copy c.in_ok-op.ensures.0 c.in_ok-op.op (map (box_copy t.program.templates.nodes) c.args.copies.items) c.holder_of-holder.result c.in_ok-later.later c.args.number
    c.in_ok-alone.alone.items c.requires.fresh c.in_ok-op.ensures.1 c.in_ok-alone.ensures.kept c.in_ok-add_copies.ensures.put c.make_choice.ensures
    c.drop_boxes.new.self c.in_ok-held.held c.args.at c.args.worker c.args.count (less_name c.args.alternative (alternatives_of ((table_of t).goal_of c.in-Some.choice))) c.in_ok-alone.gone.items c.raise.new.self.next c.requires.run c.requires.number c.in-Some.ensures
    c.holder_of-holder.ensures c.in_ok-held.ensures.held c.in_ok-held.ensures.apart c.in_ok-later.ensures refl c.in_ok-alone.ensures.gone raises c.hold.ensures
    (subst (DropsBoxes c.hold.new.self c.drop_boxes.new.self) c.as_slice.ensures.value c.drop_boxes.ensures))
