use Rattle.std.proofs.Common.{map, Some, ap, ◌∙◌}
use Rattle.akl_terms.specs.declared.program.Op.TheVariants as ops
use Rattle.akl_syntax.specs.GoalView.{goal, part}
use Rattle.akl_syntax.proofs.PartTurns.{part_is}
use Rattle.akl_lift.proofs.Parted.{part_by, clause_is}
use Rattle.akl_lift.proofs.lifting.collecting_clause.Goals as given

pub returns : given.returns
returns c =
    clause_is (record c.in_ok-clause.clause { collected = Some c.in_ok-term.term }) _ _ _ _ _ _ c.in_ok-clause.ensures.head c.in_ok-clause.ensures.arguments
    (ap part c.in_ok-clause.ensures.part ∙ part_is _ ∙ ap (λ xs. part_by (map goal c.args.guard.items) ops.Collect (map goal xs)) c.new.ensures.items) (ap Some c.in_ok-term.ensures) c.in_ok-clause.ensures.names c.in_ok-clause.ensures.start
