use Rattle.std.proofs.Common.{◌≡◌, ◌+◌, All, length, vec_len}
use Rattle.turn_lock.specs.Passes.{view, HasNoTurn, IsPassOf}
use Rattle.base_tests.proofs.lock.dismiss.Given as goal

abbrev pub invariant-loop-worker : goal.invariant-loop-worker
invariant-loop-worker l = IsPassOf l.lock l.first × All (λ w. IsPassOf l.lock w.pass) l.workers.items × ((view l.first).number ≡ 0) × HasNoTurn l.first
    × (length (view l.first).joined + vec_len l.workers ≡ (view l.first).split_count)

abbrev pub decreases-loop-worker : goal.decreases-loop-worker
decreases-loop-worker l = vec_len l.workers
