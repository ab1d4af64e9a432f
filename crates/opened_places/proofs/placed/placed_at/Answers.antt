use Rattle.std.proofs.Common.{◌≡◌, Some, sym, ap, ◌∙◌}
use Rattle.akl_terms.specs.declared.name.Place.{Place}
use Rattle.akl_model.specs.Wakes.{boxes_around}
use Rattle.box_tree.specs.Paths.{sight_in}
use Rattle.opened_places.specs.Placed.{all_but_last}
use Rattle.opened_places.proofs.RunRows.{sight_path, goal_around, box_around, not_around}
use Rattle.opened_places.proofs.placed.placed_at.Goals as goal

pub returns-in_default-clause-around : goal.returns-in_default-clause-around
returns-in_default-clause-around c = λ run t. not_around c.args.table.now run t c.args.place (sym c.in_default.ensures)

pub path_to-requires : goal.path_to-requires
path_to-requires c = sight_path c.args.table.now c.requires.0 c.requires.1 c.args.place c.in-Some.home c.in-Some.field-0-1 (sym c.in-Some.ensures)

pub returns-in-Goal-clause-around : goal.returns-in-Goal-clause-around
returns-in-Goal-clause-around c = λ run t.
    let seen : sight_in c.args.table.now (Place.Goal c.in-Goal.field-0) ≡ Some (c.in-Some.home, c.in-Some.field-0-1) = ap (sight_in c.args.table.now) (sym c.in-Goal.is) ∙ sym c.in-Some.ensures in
    ap (λ (p : Place). boxes_around p t.config.roots) c.in-Goal.is ∙ goal_around c.args.table.now run t c.in-Goal.field-0 c.in-Some.home c.in-Some.field-0-1 c.in_ok-path.path.items seen c.in_ok-path.ensures
    ∙ ap Some (sym (c.in_ok-around-in-Goal.ensures.ok ∙ c.as_slice.ensures.value))

pub returns-clause-around : goal.returns-clause-around
returns-clause-around c = λ run t.
    let seen : sight_in c.args.table.now (Place.Box c.in-Box.field-0) ≡ Some (c.in-Some.home, c.in-Some.field-0-1) = ap (sight_in c.args.table.now) (sym c.in-Box.is) ∙ sym c.in-Some.ensures in
    ap (λ (p : Place). boxes_around p t.config.roots) c.in-Box.is ∙ box_around c.args.table.now run t c.in-Box.field-0 c.in-Some.home c.in-Some.field-0-1 c.in_ok-path.path.items seen c.in_ok-path.ensures
    ∙ ap Some (sym (c.in_ok-around-in-Box.ensures.ok ∙ c.all_but_last.ensures ∙ ap all_but_last c.as_slice-in-Box.ensures.value))
