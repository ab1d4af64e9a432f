use Rattle.std.proofs.Common.{sym, ap, ◌∙◌, subst}
use Rattle.wake_lists.specs.declared.turn.Urgency.{Urgency}
use Rattle.wake_lists.specs.Open.{Openings, opening_at, untimed, IsHurried}
use Rattle.wake_lists.specs.Opened.{openings}
use Rattle.wake_lists.proofs.Keys.{sooner_is}
use Rattle.wake_lists.proofs.OpeningsKept.{not_opened}
use Rattle.wake_lists.proofs.OpenKept.{none_urgent, was_urgent, made_urgent, put_untimed}
use Rattle.wake_lists.proofs.open.Open.make_urgent.Goals as goal

pub make_urgent-requires-clause-calm : goal.make_urgent-requires-clause-calm
make_urgent-requires-clause-calm c = sym (sooner_is Urgency.Urgent c.in-Some.opened.turn.urgency) ∙ sym c.lt.ensures ∙ c.if-lt.true

pub returns-in_default-clause-hurried : goal.returns-in_default-clause-hurried
returns-in_default-clause-hurried c =
    none_urgent c.args.self.now c.args.token (ap (opening_at c.args.token) (sym c.self.view_is) ∙ not_opened c.self.inside.standing c.self.inside.queue c.args.token (sym c.get.ensures ∙ c.in_default.is))

pub returns-then-lt-clause-hurried : goal.returns-then-lt-clause-hurried
returns-then-lt-clause-hurried c =
    subst (λ (os : Openings). IsHurried os (openings c.self.inside.standing c.make_urgent.new.self) Urgency.Urgent c.args.token) c.self.view_is
    (made_urgent c.self.inside.queue c.self.inside.standing c.args.token c.in-Some.opened (sym c.get.ensures ∙ c.in-Some.is)
    (sym (sooner_is Urgency.Urgent c.in-Some.opened.turn.urgency) ∙ sym c.lt.ensures ∙ c.if-lt.true) c.make_urgent.new.self c.make_urgent.ensures)

pub returns-then-lt-clause-places : goal.returns-then-lt-clause-places
returns-then-lt-clause-places c =
    put_untimed c.self.inside.queue c.self.inside.standing c.self.invariant.ordered c.args.token c.in-Some.opened (sym c.get.ensures ∙ c.in-Some.is) Urgency.Urgent c.make_urgent.new.self c.make_urgent.ensures
    ∙ ap untimed c.self.view_is

pub returns-else-lt-clause-hurried : goal.returns-else-lt-clause-hurried
returns-else-lt-clause-hurried c =
    subst (λ (os : Openings). IsHurried os os Urgency.Urgent c.args.token) c.self.view_is
    (was_urgent c.self.inside.queue c.self.inside.standing c.args.token c.in-Some.opened (sym c.get.ensures ∙ c.in-Some.is)
    (sym (sooner_is Urgency.Urgent c.in-Some.opened.turn.urgency) ∙ sym c.lt.ensures ∙ c.if-lt.false))
