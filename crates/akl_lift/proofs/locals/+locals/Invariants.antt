use Rattle.std.proofs.Common.{◌≡◌, ◌++◌, map, drop}
use Rattle.akl_syntax.specs.Goals.{goals, parts}
use Rattle.akl_syntax.specs.GoalView.{goal, part}
use Rattle.akl_lift.specs.Lifting.{local_in_all, local_in_parts}
use Rattle.akl_lift.proofs.locals.+locals.Given as given

abbrev pub invariant-add_locals-loop-goal : given.invariant-add_locals-loop-goal
invariant-add_locals-loop-goal l = l.found.items ++ local_in_all (goals (map goal (drop l.goal-index l.written))) ≡ l.fn.found.items ++ local_in_all (goals (map goal l.written))

abbrev pub invariant-add_in_parts-loop-part : given.invariant-add_in_parts-loop-part
invariant-add_in_parts-loop-part l = l.found.items ++ local_in_parts (parts (map part (drop l.part-index l.written))) ≡ l.fn.found.items ++ local_in_parts (parts (map part l.written))
