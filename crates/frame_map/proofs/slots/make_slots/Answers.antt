use Rattle.std.proofs.Common.{List, Option, None, refl, ap, ◌∙◌, length, length-append, arith}
use Rattle.name_map.specs.Pages.{within, in_slot}
use Rattle.name_map.proofs.Within.{within_push}
use Rattle.frame_map.proofs.slots.make_slots.Goals as goal

pub loop-slots-preserved : goal.loop-slots-preserved
loop-slots-preserved g c =
    let longer = ap length c.in_ok-push.ensures.items in
    let one = length-append c.loop-slots.slots.items in
    (omega arith, λ i. ap (λ (xs : List (Option g.row.V.Denot)). within in_slot xs i) c.in_ok-push.ensures.items ∙ within_push in_slot c.loop-slots.slots.items i None refl ∙ c.loop-slots.invariant.1 i)
