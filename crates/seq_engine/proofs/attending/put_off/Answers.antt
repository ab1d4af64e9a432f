use Rattle.seq_engine.specs.Attending.{HasWaited}
use Rattle.seq_engine.proofs.Turns.{attended_after}
use Rattle.seq_engine.proofs.attending.put_off.Goals as goal

pub returns-in_ok-attended-in-Some : goal.returns-in_ok-attended-in-Some
returns-in_ok-attended-in-Some c =
    let waits : HasWaited c.args.scheduler.now c.postpone.new.self = record { core = c.postpone.ensures.core; places = c.postpone.ensures.places } in
    attended_after c.args.scheduler.now c.postpone.new.self c.attend.new.scheduler c.in_ok-attended-in-Some.attended waits c.in_ok-attended-in-Some.ensures
