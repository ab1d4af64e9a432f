use Rattle.akl_terms.specs.Names.{same_var}
use Rattle.wake_lists.specs.Waits.{same_place, waits_on}
use Rattle.wake_lists.proofs.Growing.{parted_none, parted_next, parted_all}
use Rattle.wake_lists.proofs.waiting.Waiting.remove_all.Goals as goal

pub loop-variable-init : goal.loop-variable-init
loop-variable-init c = parted_none (λ p. same_place p c.args.place) same_var c.args.on.now (waits_on c.args.self.now)

pub loop-variable-preserved : goal.loop-variable-preserved
loop-variable-preserved c =
    parted_next (λ p. same_place p c.args.place) same_var c.args.on.now (waits_on c.args.self.now) (waits_on c.loop-variable.self) (waits_on c.remove.new.self) c.loop-variable.variable-index _ c.loop-variable-test.true c.loop-variable.invariant c.remove.ensures

pub returns : goal.returns
returns c = parted_all (λ p. same_place p c.args.place) same_var c.args.on.now (waits_on c.args.self.now) (waits_on c.loop-variable.self) c.loop-variable.variable-index c.loop-variable-test.false c.loop-variable.invariant
