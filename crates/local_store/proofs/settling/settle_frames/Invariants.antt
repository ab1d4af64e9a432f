use Rattle.std.proofs.Common.{◌≡◌, ◌-◌, ◌≤◌, length, drop}
use Rattle.local_store.specs.Stored.{joins, all_named}
use Rattle.local_store.specs.Kept.{frames_of, bindings_of}
use Rattle.local_store.proofs.settling.settle_frames.Given as goal

abbrev pub invariant-loop-named : goal.invariant-loop-named
invariant-loop-named l = (l.named ≤ length l.frames) × (l.joined ≤ length l.bindings)
    × (all_named (frames_of l.settled) (drop l.named l.frames) ≡ all_named (frames_of l.initial.settled) l.frames)
    × (joins (bindings_of l.settled) (drop l.joined l.bindings) ≡ joins (bindings_of l.initial.settled) l.bindings)

abbrev pub decreases-loop-named : goal.decreases-loop-named
decreases-loop-named l = length l.frames - l.named
