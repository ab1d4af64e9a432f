use Rattle.std.proofs.Common.{take}
use Rattle.box_copies.specs.Renamer.{swapped_name}
use Rattle.box_copies.specs.Made.{AreGoalsAs}
use Rattle.box_copies.proofs.goals.copied_goals.Given as goal

abbrev pub invariant-loop-goal : goal.invariant-loop-goal
invariant-loop-goal l = AreGoalsAs (swapped_name l.names) l.alternative (take l.goal-index l.goals) l.copies.items
