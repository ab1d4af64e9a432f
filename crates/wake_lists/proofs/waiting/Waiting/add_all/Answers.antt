use Rattle.std.proofs.Common.{◌∙◌}
use Rattle.akl_terms.specs.Names.{same_var}
use Rattle.wake_lists.specs.Waits.{same_place, waits_on}
use Rattle.wake_lists.proofs.WaitsKept.{on_err}
use Rattle.wake_lists.proofs.Growing.{joined_none, joined_next, joined_all, joined_others}
use Rattle.wake_lists.proofs.waiting.Waiting.add_all.Goals as goal

pub loop-variable-init : goal.loop-variable-init
loop-variable-init c = joined_none (λ p. same_place p c.args.place) same_var c.args.on.now (waits_on c.args.self.now)

pub loop-variable-preserved : goal.loop-variable-preserved
loop-variable-preserved c =
    joined_next (λ p. same_place p c.args.place) same_var c.args.on.now (waits_on c.args.self.now) (waits_on c.loop-variable.self) (waits_on c.add.new.self) c.loop-variable.variable-index _ c.loop-variable-test.true c.loop-variable.invariant c.in_ok-add.ensures.added

pub returns-in_err-add-clause-others : goal.returns-in_err-add-clause-others
returns-in_err-add-clause-others c =
    on_err c.from_residual.result (λ p x e. c.in_err-add.ensures.unchanged p x
    ∙ joined_others (λ p. same_place p c.args.place) same_var c.args.on.now (waits_on c.args.self.now) (waits_on c.loop-variable.self) c.loop-variable.variable-index c.loop-variable.invariant p x e)

pub returns-clause-added : goal.returns-clause-added
returns-clause-added c = joined_all (λ p. same_place p c.args.place) same_var c.args.on.now (waits_on c.args.self.now) (waits_on c.loop-variable.self) c.loop-variable.variable-index c.loop-variable-test.false c.loop-variable.invariant
