use Rattle.std.proofs.Common.{ap, ◌∙◌}
use Rattle.wake_lists.specs.Open.{closed}
use Rattle.wake_lists.specs.Opened.{openings}
use Rattle.wake_lists.proofs.OpeningsKept.{openings_out}
use Rattle.wake_lists.proofs.OpenKept.{is_out}
use Rattle.wake_lists.proofs.open.Open.close.Goals as goal

pub returns-then-is_some : goal.returns-then-is_some
returns-then-is_some c =
    is_out c.self.inside.queue c.self.inside.standing c.args.token c.remove.new.self c.remove.ensures.gone c.exit.new.self c.exit.ensures.boxes
    ∙ ap (closed c.args.token) c.self.view_is

pub returns-else-is_some : goal.returns-else-is_some
returns-else-is_some c =
    ap (openings c.self.inside.standing) c.remove.ensures.gone.entries ∙ openings_out c.self.inside.standing c.self.inside.queue c.args.token ∙ ap (closed c.args.token) c.self.view_is
