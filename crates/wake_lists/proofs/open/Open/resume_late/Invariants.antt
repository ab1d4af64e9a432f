use Rattle.std.proofs.Common.{◌≡◌}
use Rattle.wake_lists.specs.Open.{untimed}
use Rattle.wake_lists.proofs.open.Open.resume_late.Given as goal

abbrev pub invariant-loop : goal.invariant-loop
invariant-loop l = untimed l.self ≡ untimed l.fn.self
