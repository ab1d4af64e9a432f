use Rattle.std.proofs.Common.{◌≡◌, ◌-◌, ◌≤◌, length, drop}
use Rattle.local_store.specs.Stored.{joins}
use Rattle.local_store.specs.Kept.{frames_of, bindings_of}
use Rattle.local_store.proofs.settling.settle_bindings.Given as goal

abbrev pub invariant-loop-joined : goal.invariant-loop-joined
invariant-loop-joined l = (l.joined ≤ length l.bindings) × (frames_of l.settled ≡ frames_of l.initial.settled)
    × (joins (bindings_of l.settled) (drop l.joined l.bindings) ≡ joins (bindings_of l.initial.settled) (drop l.first l.bindings))

abbrev pub decreases-loop-joined : goal.decreases-loop-joined
decreases-loop-joined l = length l.bindings - l.joined
