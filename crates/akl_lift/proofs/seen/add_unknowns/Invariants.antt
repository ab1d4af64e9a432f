use Rattle.std.proofs.Common.{◌≡◌, drop}
use Rattle.akl_lift.specs.Lifting.{seen_from}
use Rattle.akl_lift.proofs.seen.add_unknowns.Given as given

abbrev pub invariant-loop-number : given.invariant-loop-number
invariant-loop-number l = seen_from l.order.items (drop l.number-index l.numbers) ≡ seen_from l.fn.order.items l.numbers
