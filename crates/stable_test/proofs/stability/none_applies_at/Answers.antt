use Rattle.stable_test.proofs.Read.{none_planned}
use Rattle.stable_test.proofs.stability.none_applies_at.Goals as goal

pub returns : goal.returns
returns c = none_planned c.args.view.now c.in_ok-plan.field-0 c.in_ok-plan.ensures c.is_none.result c.is_none.ensures
