use Rattle.std.proofs.Common.{refl, sym, ap, ◌∙◌, subst}
use Rattle.wake_lists.specs.Open.{Openings, opening_at, untimed, IsPutLast}
use Rattle.wake_lists.specs.Opened.{openings}
use Rattle.wake_lists.proofs.OpeningsKept.{not_opened}
use Rattle.wake_lists.proofs.OpenKept.{if_ok, is_put_last, put_untimed}
use Rattle.wake_lists.proofs.open.Open.put_last.Goals as goal

pub returns-in_default-clause-put : goal.returns-in_default-clause-put
returns-in_default-clause-put c =
    IsPutLast.none (ap (opening_at c.args.token) (sym c.self.view_is) ∙ not_opened c.self.inside.standing c.self.inside.queue c.args.token (sym c.get.ensures ∙ c.in_default.is)) refl

pub returns-clause-put : goal.returns-clause-put
returns-clause-put c = if_ok c.retime.result c.retime.ensures.entered (λ g.
    subst (λ (os : Openings). IsPutLast os (openings c.self.inside.standing c.retime.new.self) c.args.urgency c.args.token) c.self.view_is
    (is_put_last c.self.inside.queue c.self.inside.standing c.args.token c.in-Some.opened (sym c.get.ensures ∙ c.in-Some.is) c.args.urgency c.retime.new.self g))

pub returns-clause-places : goal.returns-clause-places
returns-clause-places c = if_ok c.retime.result c.retime.ensures.entered (λ g.
    put_untimed c.self.inside.queue c.self.inside.standing c.self.invariant.ordered c.args.token c.in-Some.opened (sym c.get.ensures ∙ c.in-Some.is) c.args.urgency c.retime.new.self g
    ∙ ap untimed c.self.view_is)
