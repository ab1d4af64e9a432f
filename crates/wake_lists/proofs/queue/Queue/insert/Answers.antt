use Rattle.std.proofs.Common.{sym, ap, ◌∙◌, subst}
use Rattle.std.specs.Map.{lookup}
use Rattle.wake_lists.specs.Queue.{HasNone, is_place}
use Rattle.wake_lists.proofs.WaitsKept.{on_not_err}
use Rattle.wake_lists.proofs.LinesKept.{on_err_so}
use Rattle.wake_lists.proofs.QueueKept.{queued_more, queued_back}
use Rattle.wake_lists.proofs.queue.Queue.insert.Goals as goal
use lib.Dec.{eqb}

pub invariant_of-self-then-is_err : goal.invariant_of-self-then-is_err
invariant_of-self-then-is_err c =
    queued_back c.self.inside.schedule c.self.inside.tokens c.self.invariant c.args.token c.args.place (subst (HasNone (is_place c.args.place)) (sym c.self.view_is) c.requires.closed)
    c.insert.new.self c.remove.new.self c.in_ok-insert.ensures.put c.remove.ensures.gone c.insert-2.new.self
    (on_err_so c.insert-2.result c.insert-2.ensures.unchanged (sym c.is_err.ensures.value ∙ c.if-is_err.true))

pub invariant_of-self-else-is_err : goal.invariant_of-self-else-is_err
invariant_of-self-else-is_err c =
    queued_more c.self.inside.schedule c.self.inside.tokens c.self.invariant c.args.token c.args.place
    (ap (lookup (eqb c.args.token)) c.self.view_is ∙ c.requires.free) (subst (HasNone (is_place c.args.place)) (sym c.self.view_is) c.requires.closed) c.args.urgency c.insert-2.new.self
    (on_not_err c.insert-2.result c.insert-2.ensures.entered (sym c.is_err.ensures.value ∙ c.if-is_err.false)) c.insert.new.self c.in_ok-insert.ensures.put
