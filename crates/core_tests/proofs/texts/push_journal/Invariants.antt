use Rattle.std.proofs.Common.{◌≡◌}
use Rattle.core_tests.proofs.texts.push_journal.Given as goal

abbrev pub invariant-loop-label : goal.invariant-loop-label
invariant-loop-label l = l.at ≡ l.label-index
