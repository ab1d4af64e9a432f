use Rattle.std.proofs.Common.{◌≡◌, map, take}
use Rattle.box_copies.specs.Renamer.{swapped_name, goal_by}
use Rattle.box_copies.proofs.goals.copied_body.Given as goal

abbrev pub invariant-loop-goal : goal.invariant-loop-goal
invariant-loop-goal l = l.copies.items ≡ map (goal_by (swapped_name l.names)) (take l.goal-index l.body)
