use Rattle.std.proofs.Common.{take}
use Rattle.scheduler.proofs.SeenOnce.{IsSeenOnce}
use Rattle.scheduler.proofs.once.first_of_each.Given as goal

abbrev pub invariant-loop-place : goal.invariant-loop-place
invariant-loop-place l = IsSeenOnce (take l.place-index l.places) l.once.items l.seen.keys
