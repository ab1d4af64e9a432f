-- What a part stands for before it is known whether an operator is needed.
use Rattle.std.specs.Prelude.{map, Option, Some, None, is_some}
use Rattle.akl_terms.specs.declared.program.Op.{Op}
use Rattle.akl_terms.specs.declared.program.Op.TheVariants as ops
use Rattle.akl_syntax.specs.Goals.{Part}
use Rattle.akl_syntax.specs.GoalView.{goal}
use Rattle.akl_syntax.specs.declared.goals.WrittenPart.{WrittenPart}

-- the operator of a part: without one it counts as `?`
abbrev pub op_of : Option Op → Op
op_of None = ops.Choice
op_of (Some op) = op

abbrev pub part_of : WrittenPart → Part
part_of p = record { guard = map goal p.guard.items; op = op_of p.op; body = map goal p.body.items; is_written = is_some p.op }
