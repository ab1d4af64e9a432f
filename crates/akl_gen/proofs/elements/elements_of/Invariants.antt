use Rattle.std.proofs.Common.{◌≡◌, ◌<◌}
use Rattle.akl_gen.specs.Generated.{number_at, first_elements}
use Rattle.akl_gen.proofs.elements.elements_of.Given as goal

abbrev pub invariant-loop-index : goal.invariant-loop-index
invariant-loop-index l = record {
  elements : l.elements.items ≡ first_elements l.number l.index;
  drawn : l.drawn ≡ number_at l.number l.index;
  below : l.drawn < 2147483648;
}
