use Rattle.std.proofs.Common.{subst}
use Rattle.split_plan.specs.Split.{IsSplitBy}
use Rattle.idle_plan.proofs.Unready.{unready_box}
use Rattle.place_steps.proofs.next.box_next.Goals as goal

pub split_of-requires-clause-still : goal.split_of-requires-clause-still
split_of-requires-clause-still c = λ k. record { none = c.requires.none; inside = c.requires.still k }

pub idle_box-requires-clause-unready : goal.idle_box-requires-clause-unready
idle_box-requires-clause-unready c = unready_box c.args.view.now c.requires.none (subst (IsSplitBy c.args.view.now) c.in-None.is c.in_ok-found.ensures)
