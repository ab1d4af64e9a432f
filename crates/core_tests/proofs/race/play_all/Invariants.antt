use Rattle.std.proofs.Common.{◌≡◌}
use Rattle.core_tests.proofs.race.play_all.Given as goal

abbrev pub invariant-loop-turn : goal.invariant-loop-turn
invariant-loop-turn l =
    (goal.iterator-loop-turn).can_next l.turn-iterator ×
    (goal.iterator-loop-turn).is_finite l.turn-iterator ×
    (l.program ≡ l.core.table.program)
