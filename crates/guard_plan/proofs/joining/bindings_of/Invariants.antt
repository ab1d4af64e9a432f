use Rattle.std.proofs.Common.{◌≡◌, drop}
use Rattle.local_store.specs.Stored.{nothing, with_bindings}
use Rattle.guard_plan.specs.Collecting.{bindings_of}
use Rattle.guard_plan.proofs.joining.bindings_of.Given as goal

abbrev pub invariant-loop-alternative : goal.invariant-loop-alternative
invariant-loop-alternative l = with_bindings l.store (bindings_of (drop l.alternative-index l.alternatives)) ≡ with_bindings nothing (bindings_of l.alternatives)
