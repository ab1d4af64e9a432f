use Rattle.std.proofs.Common.{sym, subst}
use Rattle.wake_lists.specs.Queue.{Places, IsNext}
use Rattle.wake_lists.proofs.Coming.{first_next}
use Rattle.wake_lists.proofs.schedule.Schedule.first.Goals as goal

pub returns : goal.returns
returns c =
    subst (λ (os : Places). IsNext os c.first.result) c.self.view_is
    (subst (IsNext c.self.inside.places) (sym c.first.ensures) (first_next c.self.inside.places c.self.inside.lines.entries c.self.invariant.lined))
