use Rattle.std.proofs.Common.{refl}
use Rattle.variable_scopes.proofs.Numbers.{below_after}
use Rattle.variable_scopes.proofs.ClauseParts.{guard_below, body_below, part_numbers, same_part}
use Rattle.variable_scopes.proofs.clauses.number_part.Goals as goal

pub numbered_goals-requires : goal.numbered_goals-requires
numbered_goals-requires c = rw c.deref.ensures.value (guard_below _ c.args.written.now c.requires)

pub numbered_goals-requires-2 : goal.numbered_goals-requires-2
numbered_goals-requires-2 c = rw c.deref-2.ensures.value (below_after _ c.in_ok-guard.ensures.numbers (body_below _ c.args.written.now c.requires))

pub returns-clause-shape : goal.returns-clause-shape
returns-clause-shape c = same_part c.args.written.now _ (rw c.deref.ensures.value at c.in_ok-guard.ensures.shape) refl (rw c.deref-2.ensures.value at c.in_ok-body.ensures.shape)

pub returns-clause-numbers : goal.returns-clause-numbers
returns-clause-numbers c = part_numbers c.args.written.now _ (rw c.deref.ensures.value at c.in_ok-guard.ensures.numbers) (rw c.deref-2.ensures.value at c.in_ok-body.ensures.numbers)
