use Rattle.std.proofs.Common.{take}
use Rattle.box_copies.specs.Made.{kept, AreCopiedBy}
use Rattle.box_copies.proofs.copying.copied_boxes.Given as goal

abbrev pub invariant-loop-inner : goal.invariant-loop-inner
invariant-loop-inner l = AreCopiedBy l.names l.templates.nodes l.older l.top l.alternative (kept l.alternative (take l.inner-index l.boxes)) l.copies.items
