-- What a source goal stands for.
use Rattle.std.specs.Prelude.{map, true}
use Rattle.term_syntax.specs.Tree.{trees}
use Rattle.term_syntax.specs.View.{tree}
use Rattle.akl_syntax.specs.Goals.{Goal, Part, call, choice, lifted, collect, lifted_collect, goals, parts}
use Rattle.akl_syntax.specs.declared.source.SourceGoal.{SourceGoal}
use Rattle.akl_syntax.specs.declared.source.SourcePart.{SourcePart}
use Rattle.akl_syntax.specs.declared.source.SourceGoal.TheOpen.{SourceGoal-F, SourcePart-F}
use Rattle.akl_syntax.specs.declared.source.SourceGoal.TheOpen as open_goals
use Rattle.akl_syntax.specs.declared.source.SourceGoal.TheFolds.{fold-SourceGoal, fold-SourcePart}

abbrev pub goal_step : SourceGoal-F Goal Part → Goal
goal_step (open_goals.Call s args) = call s (trees (map tree args.items))
goal_step (open_goals.Choice ps) = choice (parts ps.items)
goal_step (open_goals.Lifted n args) = lifted n args.items
goal_step (open_goals.Collect t gs r) = collect (tree t) (goals gs.items) (tree r)
goal_step (open_goals.LiftedCollect n args r) = lifted_collect n args.items (tree r)

abbrev pub part_step : SourcePart-F Goal Part → Part
part_step p = record { guard = p.guard.items; op = p.op; body = p.body.items; is_written = true }

abbrev pub goal : SourceGoal → Goal
goal = fold-SourceGoal Goal Part goal_step part_step

abbrev pub part : SourcePart → Part
part = fold-SourcePart Goal Part goal_step part_step
