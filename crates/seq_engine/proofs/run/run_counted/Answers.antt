use Rattle.std.proofs.Common.{subst, refl}
use Rattle.seq_engine.specs.Runs.{HasStepped}
use Rattle.seq_engine.proofs.Labels.{goes_more, ends_quiet, ends_spent}
use Rattle.seq_engine.proofs.run.run_counted.Goals.{in-Quiet, in-Spent}
use Rattle.seq_engine.proofs.run.run_counted.Goals as goal

pub loop-steps-preserved : goal.loop-steps-preserved
loop-steps-preserved g c =
    goes_more c.args.scheduler.core c.loop-steps.scheduler.core c.step.new.scheduler.core c.args.receipts.items c.loop-steps.receipts.items c.step.new.receipts.items c.loop-steps.invariant
    (subst (HasStepped c.loop-steps.scheduler.core c.loop-steps.receipts.items c.step.new.scheduler.core c.step.new.receipts.items) c.in-Committed.is c.in_ok-step.ensures)

pub returns-in-loop-steps : goal.returns-in-loop-steps
returns-in-loop-steps g c =
    elim c.match-branch-2.branch [
      | in-Quiet w ↦
          ends_quiet c.args.scheduler.core c.loop-steps.scheduler.core c.step.new.scheduler.core c.args.receipts.items c.loop-steps.receipts.items c.step.new.receipts.items
          (record { core = c.into_core.result; receipts = c.step.new.receipts; end = c.match-branch-2.end }) c.loop-steps.invariant
          (subst (HasStepped c.loop-steps.scheduler.core c.loop-steps.receipts.items c.step.new.scheduler.core c.step.new.receipts.items) w.in-Quiet.is c.in_ok-step.ensures) c.into_core.ensures refl w.end-is
      | in-Spent w ↦
          ends_spent c.args.scheduler.core c.loop-steps.scheduler.core c.step.new.scheduler.core c.args.receipts.items c.loop-steps.receipts.items c.step.new.receipts.items
          (record { core = c.into_core.result; receipts = c.step.new.receipts; end = c.match-branch-2.end }) c.loop-steps.invariant
          (subst (HasStepped c.loop-steps.scheduler.core c.loop-steps.receipts.items c.step.new.scheduler.core c.step.new.receipts.items) w.in-Spent.is c.in_ok-step.ensures) c.into_core.ensures refl w.end-is
    ]
