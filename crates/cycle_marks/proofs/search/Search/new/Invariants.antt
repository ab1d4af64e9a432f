use Rattle.std.proofs.Common.{◌≡◌}
use Rattle.cycle_marks.specs.Searching.{new_marks}
use Rattle.cycle_marks.proofs.search.Search.new.Given as goal

abbrev pub invariant-loop : goal.invariant-loop
invariant-loop l = l.marks.items ≡ new_marks l.counter
