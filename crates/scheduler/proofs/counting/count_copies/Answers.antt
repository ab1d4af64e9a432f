use Rattle.std.proofs.Common.{◌≡◌, length, get_or, ap, ◌∙◌, arith}
use Rattle.box_tree.specs.declared.step.BoxCopy.{BoxCopy}
use Rattle.scheduler.proofs.CountedContents.{copies_next}
use Rattle.scheduler.proofs.counting.count_copies.Goals as goal

pub loop-copied-preserved : goal.loop-copied-preserved
loop-copied-preserved g c =
    let more = copies_next c.args.copies.now c.loop-copied.copied-index c.copied-item.result c.loop-copied-test.true in
    let goals : c.len.result ≡ length (get_or c.args.copies.now c.loop-copied.copied-index c.copied-item.result).goals.items =
    c.len.ensures ∙ c.copied-item.result.goals.ok.0 ∙ ap (λ (k : BoxCopy). length k.goals.items) c.copied-item.is in
    omega arith
