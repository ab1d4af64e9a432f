use Rattle.opened_places.specs.Copies.{parts_of}
use Rattle.opened_places.proofs.CopyHomes.{adds_next}
use Rattle.opened_places.proofs.copies.push_copies.Goals as goal

pub loop-copied-preserved : goal.loop-copied-preserved
loop-copied-preserved c = adds_next c.args.around.now c.args.copies.now c.loop-copied.copied-index c.copied-item.result c.args.places.now.items c.loop-copied.places.items c.push_copy.new.places.items c.loop-copied-test.true c.copied-item.is c.loop-copied.invariant
    (c.in_ok-push_copy.ensures (parts_of c.args.copies.now) c.in_ok-homes.ensures)
