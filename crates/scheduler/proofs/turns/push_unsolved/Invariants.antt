use Rattle.std.proofs.Common.{◌≡◌, ◌++◌, drop}
use Rattle.scheduler.specs.Turns.{unsolved_among}
use Rattle.scheduler.proofs.turns.push_unsolved.Given as goal

abbrev pub invariant-loop-made : goal.invariant-loop-made
invariant-loop-made l = l.unsolved.items ++ unsolved_among (drop l.made-index l.boxes) ≡ l.fn.unsolved.items ++ unsolved_among l.boxes
