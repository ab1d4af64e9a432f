use Rattle.std.proofs.Common.{take}
use Rattle.std.specs.Prelude.{◌==◌}
use Rattle.akl_terms.specs.Names.{same_name}
use Rattle.wake_lists.specs.Standing.{stands}
use Rattle.wake_lists.proofs.Growing.{JoinedBy}
use Rattle.wake_lists.proofs.inside.Inside.add_all.Given as goal

abbrev pub invariant-loop-name : goal.invariant-loop-name
invariant-loop-name l = JoinedBy (λ t. t == l.token) same_name l.boxes (stands l.fn.self) (stands l.self) (take l.name-index l.boxes)
