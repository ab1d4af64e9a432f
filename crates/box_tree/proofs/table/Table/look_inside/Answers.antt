use Rattle.std.proofs.Common.{ap, ◌∙◌}
use Rattle.box_tree.specs.declared.inside.Inside.{Inside}
use Rattle.box_tree.specs.Views.{run_of}
use Rattle.box_tree.specs.Places.{places_in}
use Rattle.box_tree.proofs.Within.{all_inside}
use Rattle.box_tree.proofs.table.Table.look_inside.Goals as goal

pub boxes_inside-requires : goal.boxes_inside-requires
boxes_inside-requires c = (run_of c.args.self.now c.args.journal.now.items, c.requires.table)

pub returns : goal.returns
returns c =
    let i : Inside = record { boxes = c.in_ok-boxes.boxes; views = c.in_ok-views.views } in
    all_inside c.args.self.now c.args.journal.now.items c.args.name c.args.worker i c.in_ok-boxes.ensures c.in_ok-places.places.items (c.in_ok-places.ensures ∙ ap places_in c.as_slice.ensures.value)
    (c.in_ok-views.ensures.places ∙ c.as_slice-2.ensures.value) c.in_ok-views.ensures.seen
