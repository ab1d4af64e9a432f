use Rattle.std.proofs.Common.{◌<◌, length, Option, set, sym, subst, arith}
use Rattle.std.proofs.lemmas.List.{get_or_read}
use Rattle.name_map.proofs.Lent.{on_ok_map, on_err_map}
use Rattle.frame_map.specs.Contents.{of_slots, Same}
use Rattle.frame_map.proofs.Leaves.{slot_made, slot_same}
use Rattle.frame_map.proofs.slots.change_slot.Goals as goal

pub returns-clause-made : goal.returns-clause-made
returns-clause-made g c =
    let there : c.args.index < length c.make_slots.new.slots.items = omega (arith, c.in_ok-make_slots.ensures.there) in
    let slots = c.make_slots.new.slots.items in
    let here = c.index_mut.result.now in
    on_ok_map c.change.result
    (slot_made (g.C.Change.makes c.args.change) c.args.slots.now.items slots c.args.index here c.change.new.value there c.make_slots.ensures.same (get_or_read slots c.args.index here there c.index_mut.ensures.value))
    c.change.ensures.made

pub returns-clause-unchanged : goal.returns-clause-unchanged
returns-clause-unchanged g c =
    let there : c.args.index < length c.make_slots.new.slots.items = omega (arith, c.in_ok-make_slots.ensures.there) in
    let slots = c.make_slots.new.slots.items in
    let here = c.index_mut.result.now in
    on_err_map c.change.result (λ e. subst (λ (o : Option g.row.V.Denot). Same (of_slots c.args.slots.now.items) (of_slots (set slots c.args.index o))) (sym e)
    (slot_same c.args.slots.now.items slots c.args.index here there c.make_slots.ensures.same (get_or_read slots c.args.index here there c.index_mut.ensures.value))) c.change.ensures.unchanged
