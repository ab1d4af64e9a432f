use Rattle.std.proofs.Common.{◌≡◌, ◌+◌, [], All, vec_len}
use Rattle.turn_lock.specs.Passes.{view, HasNoTurn, IsPassOf}
use Rattle.base_tests.proofs.lock.hire.Given as goal

abbrev pub invariant-loop-number : goal.invariant-loop-number
invariant-loop-number l = IsPassOf l.lock l.first × All (λ w. IsPassOf l.lock w.pass) l.workers.items × ((view l.first).number ≡ 0) × HasNoTurn l.first
    × ((view l.first).split_count + 1 ≡ l.number) × ((view l.first).joined ≡ []) × (vec_len l.workers + 1 ≡ l.number)
