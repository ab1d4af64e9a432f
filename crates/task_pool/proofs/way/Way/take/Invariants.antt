use Rattle.std.proofs.Common.{◌≡◌}
use Rattle.crossbeam_deque.specs.Handles.{view, stealer_deque, stealer_flavor, IsPassOf}
use Rattle.task_pool.proofs.way.Way.take.Given as goal

abbrev pub invariant-loop : goal.invariant-loop
invariant-loop g l = record {
  pass : IsPassOf (stealer_deque l.self.stealer) l.self.pass;
  deque : stealer_deque l.self.stealer ≡ stealer_deque l.initial.self.stealer;
  flavor : stealer_flavor l.self.stealer ≡ stealer_flavor l.initial.self.stealer;
  view : view l.self.pass ≡ view l.initial.self.pass;
}
