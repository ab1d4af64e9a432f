use Rattle.split_plan.proofs.reading.split_reads.Goals as goal

pub returns : goal.returns
returns c = record { outer = c.in_ok-items.items.items; are_outer = c.in_ok-items.ensures; are_items = c.in_ok-push_boxes.ensures }
