use Rattle.why_report.proofs.AlternativesSeen.{box_within, named_at, touched_next}
use Rattle.why_report.proofs.watching.touched_by.Goals as goal

pub touched_inside-requires-clause-there : goal.touched_inside-requires-clause-there
touched_inside-requires-clause-there c =
    let test = rw c.alternatives-alternative-items.ensures.alternatives at c.loop-alternative-test.true in
    let item = rw c.alternatives-alternative-items.ensures.alternatives at c.alternative-item.is in
    rw c.path-depth.ensures
    (box_within c.args.view.now c.alternatives-alternative-items.ensures.seen c.args.goal c.requires.view.place c.args.core.now c.requires.view.table c.requires.view.journal c.alternative-item.result.name
    (named_at c.args.view.now.alternatives c.loop-alternative.alternative-index c.alternative-item.result test item))

pub loop-alternative-preserved : goal.loop-alternative-preserved
loop-alternative-preserved c =
    let test = rw c.alternatives-alternative-items.ensures.alternatives at c.loop-alternative-test.true in
    let item = rw c.alternatives-alternative-items.ensures.alternatives at c.alternative-item.is in
    rw (c.in_ok-extend_from_slice.ensures.items, c.as_slice.ensures.value)
    (touched_next c.args.core.now c.args.view.now.alternatives c.loop-alternative.alternative-index c.alternative-item.result test item
    c.loop-alternative.of.items c.in_ok-more.more.items c.loop-alternative.invariant c.in_ok-more.ensures)
