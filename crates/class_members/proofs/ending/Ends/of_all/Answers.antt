use Rattle.std.proofs.Common.{◌+◌, arith, take}
use Rattle.rational_unify.proofs.Taking.{take-next}
use Rattle.class_members.proofs.Gathered.{ends_headed, ends_there, ends_new}
use Rattle.class_members.proofs.ending.Ends.of_all.Goals as goal
use Rattle.class_members.proofs.ending.Ends.of_all.Goals.{in-Some+then-not-contains+in_ok-push, in-Some+else-not-contains, in_default}

pub loop-variable-preserved : goal.loop-variable-preserved
loop-variable-preserved g c = rw (take-next c.args.variables.now c.loop-variable.variable-index (c.loop-variable.variable-index + 1) (record { frame = record { worker = 0; number = 0 }; index = 0 }) c.loop-variable-test.true (omega arith))
    (elim c.match-variable_end.branch [
      | in-Some+then-not-contains+in_ok-push w ↦ rw (w.ends-is, w.in_ok-push.ensures)
          (ends_new c.args.templates.now.nodes (g.W.Lookup.bindings c.args.whole.now) (take c.loop-variable.variable-index c.args.variables.now) c.loop-variable.ends c.loop-variable.invariant
          _ w.in-Some.end w.in-Some.ensures)
      | in-Some+else-not-contains w ↦ rw w.ends-is
          (ends_there c.args.templates.now.nodes (g.W.Lookup.bindings c.args.whole.now) (take c.loop-variable.variable-index c.args.variables.now) c.loop-variable.ends c.loop-variable.invariant
          _ w.in-Some.end w.in-Some.ensures (w.contains.ensures.0 w.if-not-contains.false))
      | in_default w ↦ rw w.ends-is
          (ends_headed c.args.templates.now.nodes (g.W.Lookup.bindings c.args.whole.now) (take c.loop-variable.variable-index c.args.variables.now) c.loop-variable.ends c.loop-variable.invariant
          _ w.in_default.ensures)
    ])
