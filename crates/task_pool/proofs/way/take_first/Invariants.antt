use Rattle.std.proofs.Common.{◌≡◌, ℕ, ◌<◌, ◌≤◌, All, map, slice_get, Some}
use Rattle.task_pool.specs.declared.view.View.{View}
use Rattle.task_pool.specs.Steps.{SeenEmpty}
use Rattle.task_pool.specs.Ways.{IsWayOf, deque_of, view_of, taken_through}
use Rattle.task_pool.proofs.way.take_first.Given as goal

abbrev pub invariant-loop-k : goal.invariant-loop-k
invariant-loop-k g l = record {
  ways : (number : ℕ) → All (IsWayOf number) l.initial.ways → All (IsWayOf number) l.ways;
  deques : map deque_of l.ways ≡ map deque_of l.initial.ways;
  views : map view_of l.ways ≡ map view_of l.initial.ways;
  takings : map taken_through l.ways ≡ map taken_through l.initial.ways;
  looked : (k : ℕ) (v : View) → l.initial.from ≤ k → k < l.k → slice_get (map view_of l.initial.ways) k ≡ Some v → SeenEmpty g.P.Protocol.holds v;
}
