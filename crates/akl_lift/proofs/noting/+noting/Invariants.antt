use Rattle.std.proofs.Common.{map, drop}
use Rattle.akl_syntax.specs.Goals.{goals, parts}
use Rattle.akl_syntax.specs.GoalView.{goal, part}
use Rattle.akl_lift.specs.Noting.{inside_view}
use Rattle.akl_lift.proofs.Notes.{NotesGoals, NotesParts}
use Rattle.akl_lift.proofs.noting.+noting.Given as given

abbrev pub invariant-note_goals-loop-goal : given.invariant-note_goals-loop-goal
invariant-note_goals-loop-goal l =
    NotesGoals l.fn.found.items (map inside_view l.fn.noted.items) (goals (map goal l.written)) l.found.items (map inside_view l.noted.items) (goals (map goal (drop l.goal-index l.written)))

abbrev pub invariant-note_parts-loop-part : given.invariant-note_parts-loop-part
invariant-note_parts-loop-part l =
    NotesParts (map inside_view l.fn.noted.items) (parts (map part l.written)) (map (λ v. v.items) l.lists.items) (map inside_view l.noted.items) (parts (map part (drop l.part-index l.written)))
