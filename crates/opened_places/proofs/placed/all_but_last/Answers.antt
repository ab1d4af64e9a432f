use Rattle.std.proofs.Common.{sym, ap, ◌∙◌}
use Rattle.opened_places.specs.Placed.{all_but_last}
use Rattle.opened_places.proofs.RunRows.{but_last}
use Rattle.opened_places.proofs.placed.all_but_last.Goals as goal

pub returns-in-Some : goal.returns-in-Some
returns-in-Some c = sym (ap all_but_last c.in-Some.ensures.cases.0 ∙ but_last c.in-Some.around.now c.in-Some.field-0-0.now)
