use Rattle.std.proofs.Common.{◌+◌, arith, take, None}
use Rattle.rational_unify.proofs.Taking.{take-next}
use Rattle.entail_test.proofs.Classes.{ends-same, ends-more}
use Rattle.entail_test.proofs.reading.ends_of.Goals as goal
use Rattle.entail_test.proofs.reading.ends_of.Goals.{in-Some+in_ok-meet, in_default}

pub loop-class-preserved : goal.loop-class-preserved
loop-class-preserved c = rw (take-next c.args.classes.now c.loop-class.class-index (c.loop-class.class-index + 1) (record { member = record { frame = record { worker = 0; number = 0 }; index = 0 }; root = record { frame = record { worker = 0; number = 0 }; index = 0 }; end = None }) c.loop-class-test.true (omega arith))
    (elim c.match-class.branch [
      | in-Some+in_ok-meet w ↦ rw w.ends-is (ends-more (take c.loop-class.class-index c.args.classes.now) _ c.loop-class.ends w.meet.new.self c.loop-class.invariant w.in-Some.end _ w.in-Some.is
          w.in_ok-meet.ensures.before w.in_ok-meet.ensures.met)
      | in_default w ↦ rw w.ends-is (ends-same (take c.loop-class.class-index c.args.classes.now) _ c.loop-class.ends c.loop-class.ends c.loop-class.invariant w.in_default.is)
    ])
