use Rattle.std.proofs.Common.{take}
use Rattle.opened_places.specs.Copies.{parts_of, AddsCopies}
use Rattle.opened_places.proofs.copies.push_copies.Given as goal

abbrev pub invariant-loop-copied : goal.invariant-loop-copied
invariant-loop-copied l = AddsCopies l.around (parts_of l.copies) (parts_of (take l.copied-index l.copies)) l.fn.places.items l.places.items
