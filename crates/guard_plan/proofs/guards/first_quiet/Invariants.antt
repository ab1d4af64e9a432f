use Rattle.std.proofs.Common.{◌≡◌, take}
use Rattle.guard_plan.specs.Noisy.{AreNoisy}
use Rattle.guard_plan.proofs.guards.first_quiet.Given as goal

abbrev pub invariant-loop-candidate : goal.invariant-loop-candidate
invariant-loop-candidate l = (l.stores.items ≡ l.path) × AreNoisy l.templates.nodes l.path (take l.candidate-index l.candidates) l.noise.items
