use Rattle.std.proofs.Common.{◌≡◌, length, get_or, ap, ◌∙◌, arith}
use Rattle.box_tree.specs.declared.step.NewBox.{NewBox}
use Rattle.scheduler.proofs.CountedContents.{boxes_next}
use Rattle.scheduler.proofs.counting.count_boxes.Goals as goal

pub loop-made-preserved : goal.loop-made-preserved
loop-made-preserved g c =
    let more = boxes_next c.args.boxes.now c.loop-made.made-index c.made-item.result c.loop-made-test.true in
    let goals : c.len.result ≡ length (get_or c.args.boxes.now c.loop-made.made-index c.made-item.result).goals.items =
    c.len.ensures ∙ c.made-item.result.goals.ok.0 ∙ ap (λ (n : NewBox). length n.goals.items) c.made-item.is in
    omega arith
