use Rattle.std.proofs.Common.{◌≡◌}
use Rattle.core_tests.specs.Waking.{GoesOnTo}
use Rattle.core_tests.proofs.attending.attend_each.Given as goal

abbrev pub invariant-loop-place : goal.invariant-loop-place
invariant-loop-place l =
    (goal.iterator-loop-place).can_next l.place-iterator ×
    (goal.iterator-loop-place).is_finite l.place-iterator ×
    (l.program ≡ l.scheduler.core.table.program) ×
    GoesOnTo l.fn.scheduler.core l.scheduler.core
