use Rattle.std.proofs.Common.{◌∙◌}
use Rattle.std.specs.Prelude.{◌==◌}
use Rattle.akl_terms.specs.Names.{same_name}
use Rattle.wake_lists.specs.Standing.{stands}
use Rattle.wake_lists.proofs.WaitsKept.{on_err}
use Rattle.wake_lists.proofs.Growing.{joined_none, joined_next, joined_all, joined_others}
use Rattle.wake_lists.proofs.inside.Inside.add_all.Goals as goal

pub loop-name-init : goal.loop-name-init
loop-name-init c = joined_none (λ t. t == c.args.token) same_name c.args.boxes.now (stands c.args.self.now)

pub loop-name-preserved : goal.loop-name-preserved
loop-name-preserved c =
    joined_next (λ t. t == c.args.token) same_name c.args.boxes.now (stands c.args.self.now) (stands c.loop-name.self) (stands c.add.new.self) c.loop-name.name-index _ c.loop-name-test.true c.loop-name.invariant c.in_ok-add.ensures.added

pub returns-in_err-add-clause-others : goal.returns-in_err-add-clause-others
returns-in_err-add-clause-others c =
    on_err c.from_residual.result (λ t n e. c.in_err-add.ensures.unchanged t n
    ∙ joined_others (λ t. t == c.args.token) same_name c.args.boxes.now (stands c.args.self.now) (stands c.loop-name.self) c.loop-name.name-index c.loop-name.invariant t n e)

pub returns-clause-added : goal.returns-clause-added
returns-clause-added c = joined_all (λ t. t == c.args.token) same_name c.args.boxes.now (stands c.args.self.now) (stands c.loop-name.self) c.loop-name.name-index c.loop-name-test.false c.loop-name.invariant
