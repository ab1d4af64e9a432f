use Rattle.std.proofs.Common.{◌+◌}
use Rattle.scheduler.proofs.OpenedMore.{opened_next}
use Rattle.scheduler.proofs.CountedOpenings.{open_next, open_within}
use Rattle.scheduler.proofs.opening.open_all.Goals as goal

pub loop-placed-preserved : goal.loop-placed-preserved
loop-placed-preserved g c = record {
  opened = opened_next c.args.places.now c.loop-placed.placed-index c.placed-item.result c.placed-item.result c.args.open_places.now c.loop-placed.open_places c.open_one.new.open_places c.loop-placed.tokens.items c.open_one.new.tokens.items
      c.loop-placed-test.true c.placed-item.is c.loop-placed.invariant.opened c.in_default.ensures.opened;
  steps = open_next c.args.places.now c.loop-placed.placed-index c.placed-item.result c.placed-item.result c.args.open_places.now c.loop-placed.open_places c.loop-placed.tokens.items c.args.steps.now c.loop-placed.steps c.open_one.new.steps
      c.loop-placed-test.true c.placed-item.is c.loop-placed.invariant.opened c.loop-placed.invariant.steps c.open_one.ensures.steps;
}

pub returns-in-Err-clause-steps : goal.returns-in-Err-clause-steps
returns-in-Err-clause-steps g c = open_within c.args.places.now (c.loop-placed.placed-index + 1) c.args.steps.now c.open_one.new.steps
    (open_next c.args.places.now c.loop-placed.placed-index c.placed-item.result c.placed-item.result c.args.open_places.now c.loop-placed.open_places c.loop-placed.tokens.items c.args.steps.now c.loop-placed.steps c.open_one.new.steps
    c.loop-placed-test.true c.placed-item.is c.loop-placed.invariant.opened c.loop-placed.invariant.steps c.in-Err.ensures.steps)
