-- When the stores that a plan makes were solved.
use Rattle.std.specs.Prelude.{ℕ, List, Option, Some, None, is_none, if◌then◌else◌, nat_eq}
use Rattle.akl_terms.specs.declared.name.Place.{Place}
use Rattle.akl_terms.specs.declared.name.Var.{Var}
use Rattle.akl_terms.specs.declared.term.Term.{Term}
use Rattle.table_laws.specs.Rows.{Table}
use Rattle.table_laws.specs.Writes.{holder_in_row}
use Rattle.box_tree.specs.declared.step.Step.{Step}
use Rattle.box_tree.specs.Solved.{solved_with}

-- the store of a goal's box, with what is added to it
abbrev pub solved_over : Table → Place → List (Var × Term) → ℕ → Option ℕ
solved_over T (Place.Goal g) bindings seen = solved_with T g bindings seen
solved_over T (Place.Box n) bindings seen = None

-- the copies of a root box stand in one another alone, so that they are solved after all labels; around those of another box something may have been told
abbrev pub solved_copies : Table → ℕ → Place → Option ℕ
solved_copies T labels (Place.Goal g) = None
solved_copies T labels (Place.Box n) = if is_none (holder_in_row (T.box_of n)) then Some labels else None

-- after so many labels, where it is known; new boxes after as many as the plan had seen, so that they are solved as long as no store around them changes
abbrev pub solved_by : Table → ℕ → ℕ → Place → Step → Option ℕ
solved_by T labels seen place (Step.Tell part solved) = solved_over T place part.bindings.items seen
solved_by T labels seen place (Step.Join part solved goals told behind) = solved_over T place part.bindings.items seen
solved_by T labels seen place (Step.Split copy copies) = solved_copies T labels place
solved_by T labels seen place (Step.Fork op alternatives) = Some seen
solved_by T labels seen place Step.Fail = Some seen
solved_by T labels seen place Step.Cut = Some seen
solved_by T labels seen place Step.Refute = Some seen
solved_by T labels seen place Step.Confirm = Some seen

-- after all labels where the plan has seen them all
abbrev pub solved_at : Table → ℕ → ℕ → Place → Step → Option ℕ
solved_at T labels seen place step = if nat_eq labels seen then Some labels else solved_by T labels seen place step
