use Rattle.std.proofs.Common.{sym, ap, ◌∙◌}
use Rattle.std.specs.Prelude.{option_map}
use Rattle.wake_lists.specs.declared.turn.Opened.{Opened}
use Rattle.wake_lists.specs.Open.{Opening, Openings, opening_at}
use Rattle.wake_lists.proofs.OpeningsKept.{part_is}
use Rattle.wake_lists.proofs.open.Open.urgency_of.Goals as goal

pub returns-in-Some : goal.returns-in-Some
returns-in-Some c =
    ap (option_map (λ (o : Opened). o.turn.urgency)) (sym c.in-Some.is) ∙ part_is c.self.inside.standing c.self.inside.queue (λ p u. u.urgency) c.args.token c.get.result c.get.ensures
    ∙ ap (λ (os : Openings). option_map (λ (o : Opening). o.turn.urgency) (opening_at c.args.token os)) c.self.view_is

pub returns-in-None : goal.returns-in-None
returns-in-None c =
    ap (option_map (λ (o : Opened). o.turn.urgency)) (sym c.in-None.is) ∙ part_is c.self.inside.standing c.self.inside.queue (λ p u. u.urgency) c.args.token c.get.result c.get.ensures
    ∙ ap (λ (os : Openings). option_map (λ (o : Opening). o.turn.urgency) (opening_at c.args.token os)) c.self.view_is
