use Rattle.std.proofs.Common.{subst}
use Rattle.std.proofs.lemmas.Result.{IfOk-weaker}
use Rattle.seq_engine.specs.Attending.{HasCome, HasAttended}
use Rattle.seq_engine.proofs.Turns.{attended_after}
use Rattle.seq_engine.proofs.attending.attend_next.Goals as goal

pub returns-in-Some-2 : goal.returns-in-Some-2
returns-in-Some-2 c =
    attended_after c.args.scheduler.now c.loop.scheduler c.come_to.new.scheduler c.in-Some-2.attended c.loop.invariant (subst (HasCome c.loop.scheduler c.come_to.new.scheduler) c.in-Some-2.is c.in_ok-attended.ensures)

pub returns : goal.returns
returns c =
    IfOk-weaker c.attend_at_rest.result (HasAttended c.loop.scheduler c.attend_at_rest.new.scheduler) (HasAttended c.args.scheduler.now c.attend_at_rest.new.scheduler)
    (λ a. attended_after c.args.scheduler.now c.loop.scheduler c.attend_at_rest.new.scheduler a c.loop.invariant) c.attend_at_rest.ensures
