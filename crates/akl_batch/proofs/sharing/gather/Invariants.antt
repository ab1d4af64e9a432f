use Rattle.std.proofs.Common.{◌≡◌, ◌++◌, length}
use Rattle.std.specs.Vec.Iter.{into_iter_items}
use Rattle.akl_batch.specs.Steps.{GathersInto}
use Rattle.akl_batch.proofs.sharing.gather.Given as goal

abbrev pub invariant-loop-part : goal.invariant-loop-part
invariant-loop-part l = record {
  parts : l.yielded ++ into_iter_items l.part-iterator ≡ l.fn.parts.items;
  gathers : GathersInto l.yielded l.fn.places.items l.places.items;
  count : length l.places.items ≡ length l.fn.places.items;
}
