use Rattle.std.proofs.Common.{refl}
use Rattle.body_goals.specs.Reduced.{told}
use Rattle.body_goals.proofs.body.take_goal.Goals as goal

pub returns-in_ok-body-in-Tells-clause-goes_on : goal.returns-in_ok-body-in-Tells-clause-goes_on
returns-in_ok-body-in-Tells-clause-goes_on c = told c.in-Tells.rule (rw c.in-Tells.is at c.in_ok-reduce_goal.ensures.reduces) (rw c.label_of-in-Tells.ensures at c.in_ok-push-in-Tells.ensures.items) refl
    c.in_ok-body-in-Tells.ensures c.in_ok-body-in-Tells.ensures
