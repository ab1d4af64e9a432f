use Rattle.std.proofs.Common.{◌≡◌, ◌≤◌, length, drop}
use Rattle.local_store.specs.Parts.{all_ports}
use Rattle.local_store.proofs.ports.Ports.with_all.Given as goal

abbrev pub invariant-loop-left : goal.invariant-loop-left
invariant-loop-left l = (l.left ≤ length l.others) × (l.ports ≡ all_ports l.self (drop l.left l.others))

abbrev pub decreases-loop-left : goal.decreases-loop-left
decreases-loop-left l = l.left
