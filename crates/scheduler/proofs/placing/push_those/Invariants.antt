use Rattle.std.proofs.Common.{take}
use Rattle.scheduler.specs.Placing.{AddsThose}
use Rattle.scheduler.proofs.placing.push_those.Given as goal

abbrev pub invariant-loop-place : goal.invariant-loop-place
invariant-loop-place l = AddsThose l.table (take l.place-index l.places) l.fn.those.items l.those.items
