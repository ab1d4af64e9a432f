use Rattle.std.proofs.Common.{List, Option, None, refl, ap, ◌∙◌}
use Rattle.name_map.specs.Pages.{within, in_slot}
use Rattle.name_map.proofs.Within.{within_push}
use Rattle.name_map.proofs.page.make_slots.Goals as goal

pub loop-slots-init : goal.loop-slots-init
loop-slots-init g c = λ i. ap (λ (xs : List (Option g.row.V.Denot)). within in_slot xs i) c.in_ok-reserve_exact.ensures.items

pub loop-slots-preserved : goal.loop-slots-preserved
loop-slots-preserved g c = λ i. ap (λ (xs : List (Option g.row.V.Denot)). within in_slot xs i) c.in_ok-push.ensures.items ∙ within_push in_slot c.loop-slots.slots.items i None refl ∙ c.loop-slots.invariant i
