use Rattle.std.proofs.Common.{None, sym, ◌∙◌, subst}
use Rattle.wake_lists.specs.Open.{Openings, IsOpen, IsOpened}
use Rattle.wake_lists.specs.Opened.{openings}
use Rattle.wake_lists.proofs.WaitsKept.{on_not_err}
use Rattle.wake_lists.proofs.OpenKept.{is_closed, is_opened}
use Rattle.wake_lists.proofs.open.Open.open_new.Goals as goal

pub insert-requires-clause-closed : goal.insert-requires-clause-closed
insert-requires-clause-closed c =
    is_closed c.self.inside.queue c.self.inside.standing c.args.place
    (subst (λ (os : Openings). IsOpen os c.args.place None) (sym c.self.view_is) c.requires)

pub returns-clause-opened : goal.returns-clause-opened
returns-clause-opened c =
    let entered = on_not_err c.enter.result c.enter.ensures.entered (sym c.is_err.ensures.value ∙ c.if-is_err.false) in
    let put = on_not_err c.insert.result c.insert.ensures.entered (sym c.is_err-2.ensures.value ∙ c.if-is_err-2.false) in
    let closed = subst (λ (os : Openings). IsOpen os c.args.place None) (sym c.self.view_is) c.requires in
    subst (λ (os : Openings). IsOpened os (openings c.enter.new.self c.insert.new.self) c.args.place c.args.around.now c.args.urgency c.in_ok-token.token) c.self.view_is
    (is_opened c.self.inside.queue c.self.inside.standing c.self.inside.numbers c.self.invariant c.in_ok-token.token c.in_ok-token.ensures.least c.args.place c.args.around.now c.args.urgency
    c.insert.new.self put c.enter.new.self entered closed)
