use Rattle.std.specs.Prelude.{◌==◌}
use Rattle.akl_terms.specs.Names.{same_name}
use Rattle.wake_lists.specs.Standing.{stands}
use Rattle.wake_lists.proofs.Growing.{parted_none, parted_next, parted_all}
use Rattle.wake_lists.proofs.inside.Inside.remove_all.Goals as goal

pub loop-name-init : goal.loop-name-init
loop-name-init c = parted_none (λ t. t == c.args.token) same_name c.args.boxes.now (stands c.args.self.now)

pub loop-name-preserved : goal.loop-name-preserved
loop-name-preserved c =
    parted_next (λ t. t == c.args.token) same_name c.args.boxes.now (stands c.args.self.now) (stands c.loop-name.self) (stands c.remove.new.self) c.loop-name.name-index _ c.loop-name-test.true c.loop-name.invariant c.remove.ensures

pub returns : goal.returns
returns c = parted_all (λ t. t == c.args.token) same_name c.args.boxes.now (stands c.args.self.now) (stands c.loop-name.self) c.loop-name.name-index c.loop-name-test.false c.loop-name.invariant
