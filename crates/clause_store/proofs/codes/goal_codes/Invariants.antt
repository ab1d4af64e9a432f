use Rattle.std.proofs.Common.{map, take}
use Rattle.akl_syntax.specs.GoalView.{goal}
use Rattle.clause_store.specs.Putting.{AreGoalsPut}
use Rattle.clause_store.proofs.codes.goal_codes.Given as given

abbrev pub invariant-loop-goal : given.invariant-loop-goal
invariant-loop-goal l = AreGoalsPut l.fn.callees l.fn.templates l.templates (map goal (take l.goal-index l.written)) l.codes.items
