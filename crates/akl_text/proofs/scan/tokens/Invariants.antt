use Rattle.std.proofs.Common.{◌≤◌, ◌-◌, length, drop}
use Rattle.akl_text.proofs.SoFar.{SoFar}
use Rattle.akl_text.proofs.scan.tokens.Given as goal

abbrev pub invariant-loop-at : goal.invariant-loop-at
invariant-loop-at l = record { so_far : SoFar l.fn.from (drop l.fn.from l.fn.bytes) l.found.items l.before l.at (drop l.at l.fn.bytes); within : l.at ≤ length l.bytes }

abbrev pub decreases-loop-at : goal.decreases-loop-at
decreases-loop-at l = length l.bytes - l.at
