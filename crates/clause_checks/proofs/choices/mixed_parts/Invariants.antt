use Rattle.std.proofs.Common.{◌≡◌, map, drop}
use Rattle.akl_syntax.specs.Goals.{parts}
use Rattle.akl_syntax.specs.GoalView.{part}
use Rattle.clause_checks.specs.Rows.{mixed_parts}
use Rattle.clause_checks.proofs.choices.mixed_parts.Given as given

abbrev pub invariant-loop-part : given.invariant-loop-part
invariant-loop-part l = mixed_parts l.op (parts (map part (drop l.part-index l.written))) ≡ mixed_parts l.op (parts (map part l.written))
