use Rattle.std.proofs.Common.{◌≡◌, ◌++◌, length}
use Rattle.std.specs.Vec.Iter.{into_iter_items}
use Rattle.akl_batch.specs.Steps.{PutsInto}
use Rattle.akl_batch.proofs.sharing.place.Given as goal

abbrev pub invariant-loop-answered : goal.invariant-loop-answered
invariant-loop-answered l = record {
  part : l.yielded ++ into_iter_items l.answered-iterator ≡ l.fn.part.items;
  puts : PutsInto l.yielded l.fn.places.items l.places.items;
  count : length l.places.items ≡ length l.fn.places.items;
}
