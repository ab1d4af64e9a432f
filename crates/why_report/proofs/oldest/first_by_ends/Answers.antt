use Rattle.std.proofs.Common.{◌+◌, sym, ◌∙◌, arith, take, slice_index_or}
use Rattle.akl_terms.specs.declared.name.Var.{Var}
use Rattle.rational_unify.proofs.Taking.{take-next}
use Rattle.class_members.specs.Listed.{has}
use Rattle.why_report.proofs.Firsts.{earlier, first_headed, met_headed, first_met, first_new, met_more, was_new, was_met}
use Rattle.why_report.proofs.oldest.first_by_ends.Goals as goal
use Rattle.why_report.proofs.oldest.first_by_ends.Goals.{in-Some+in_ok-meet+then-branch+in_ok-push, in-Some+in_ok-meet+else-branch, in_default}

pub loop-variable-preserved : goal.loop-variable-preserved
loop-variable-preserved g c =
    let d : Var = record { frame = record { worker = 0; number = 0 }; index = 0 } in
    let bs = g.W.Lookup.bindings c.args.whole.now in
    let nodes = c.args.templates.now.nodes in
    let done = take c.loop-variable.variable-index c.args.sorted.now in
    let x : Var = slice_index_or c.args.sorted.now c.loop-variable.variable-index d in
    let after = earlier c.args.sorted.now c.requires.sorted d c.loop-variable.variable-index c.loop-variable-test.true in
    rw (take-next c.args.sorted.now c.loop-variable.variable-index (c.loop-variable.variable-index + 1) d c.loop-variable-test.true (omega arith))
    (elim c.match-variable_end.branch [
      | in-Some+in_ok-meet+then-branch+in_ok-push w ↦ rw (w.list-is, w.met-is, w.in_ok-push.ensures.items) (
        first_new nodes bs done c.loop-variable.list.items c.loop-variable.met.keys c.loop-variable.invariant.0 c.loop-variable.invariant.1 x after w.in-Some.end w.in-Some.ensures
            (was_new (has c.loop-variable.met.keys w.in-Some.end) (sym w.in_ok-meet.ensures.new ∙ w.if-branch.true)),
        met_more nodes bs done c.loop-variable.list.items c.loop-variable.met.keys c.loop-variable.invariant.0 c.loop-variable.invariant.1 x after w.in-Some.end w.in-Some.ensures w.meet.new.met.keys w.in_ok-meet.ensures.met,
      )
      | in-Some+in_ok-meet+else-branch w ↦ rw (w.list-is, w.met-is) (
        first_met nodes bs done c.loop-variable.list.items c.loop-variable.met.keys c.loop-variable.invariant.0 c.loop-variable.invariant.1 x after w.in-Some.end w.in-Some.ensures
            (was_met (has c.loop-variable.met.keys w.in-Some.end) (sym w.in_ok-meet.ensures.new ∙ w.if-branch.false)),
        met_more nodes bs done c.loop-variable.list.items c.loop-variable.met.keys c.loop-variable.invariant.0 c.loop-variable.invariant.1 x after w.in-Some.end w.in-Some.ensures w.meet.new.met.keys w.in_ok-meet.ensures.met,
      )
      | in_default w ↦ rw (w.list-is, w.met-is) (
        first_headed nodes bs done c.loop-variable.list.items c.loop-variable.met.keys c.loop-variable.invariant.0 c.loop-variable.invariant.1 x after w.in_default.ensures,
        met_headed nodes bs done c.loop-variable.list.items c.loop-variable.met.keys c.loop-variable.invariant.0 c.loop-variable.invariant.1 x after w.in_default.ensures,
      )
    ])
