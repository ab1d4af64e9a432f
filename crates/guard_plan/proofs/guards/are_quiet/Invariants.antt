use Rattle.std.proofs.Common.{◌≡◌, take}
use Rattle.std.specs.Prelude.{IsTrue, ◌↔◌}
use Rattle.guard_plan.specs.Guards.{AreQuietOver}
use Rattle.guard_plan.specs.Noisy.{HasNoise}
use Rattle.guard_plan.proofs.guards.are_quiet.Given as goal

abbrev pub invariant-loop-alternative : goal.invariant-loop-alternative
invariant-loop-alternative l = (l.stores.items ≡ l.path) × (IsTrue l.quiet ↔ AreQuietOver l.templates.nodes l.path (take l.alternative-index l.alternatives))
    × HasNoise l.templates.nodes l.path (take l.alternative-index l.alternatives) l.noise.items
