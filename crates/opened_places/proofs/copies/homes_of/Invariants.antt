use Rattle.std.proofs.Common.{take}
use Rattle.opened_places.specs.Copies.{parts_of, AreHomes}
use Rattle.opened_places.proofs.copies.homes_of.Given as goal

abbrev pub invariant-loop-copied : goal.invariant-loop-copied
invariant-loop-copied l = AreHomes (parts_of (take l.copied-index l.copies)) l.homes.entries
