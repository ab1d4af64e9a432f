use Rattle.std.proofs.Common.{◌+◌, arith, true, false, take, refl}
use Rattle.rational_unify.proofs.Taking.{take-next}
use Rattle.entail_test.proofs.Classes.{classes-headed, classes-there, classes-new, root-there, roots-same, roots-more}
use Rattle.entail_test.proofs.reading.classes_of.Goals as goal
use Rattle.entail_test.proofs.reading.classes_of.Goals.{in-Some+in_ok-meet+then-not-branch+in_ok-push, in-Some+in_ok-meet+else-not-branch, in_default}

pub loop-member-preserved : goal.loop-member-preserved
loop-member-preserved g c = rw (take-next c.args.candidates.now c.loop-member.member-index (c.loop-member.member-index + 1) (record { frame = record { worker = 0; number = 0 }; index = 0 }) c.loop-member-test.true (omega arith))
    (elim c.match-variable_end.branch [
      | in-Some+in_ok-meet+then-not-branch+in_ok-push w ↦ rw (w.classes-is, w.roots-is, w.in_ok-push.ensures.items) (
        classes-new c.args.templates.now.nodes (g.K.Lookup.bindings c.args.known.now) (g.W.Lookup.bindings c.args.whole.now)
            (take c.loop-member.member-index c.args.candidates.now) c.loop-member.classes.items c.loop-member.invariant.0 _ _ refl w.in-Some.ensures w.variable_end-then-not-branch.ensures
            (root-there c.loop-member.classes.items c.loop-member.roots w.meet.new.self c.loop-member.invariant.1 w.in-Some.root _ w.in_ok-meet.ensures.before w.in_ok-meet.ensures.met false w.if-not-branch.true),
        roots-more c.loop-member.classes.items c.loop-member.roots w.meet.new.self c.loop-member.invariant.1 w.in-Some.root _ w.in_ok-meet.ensures.before w.in_ok-meet.ensures.met _ refl,
      )
      | in-Some+in_ok-meet+else-not-branch w ↦ rw (w.classes-is, w.roots-is) (
        classes-there c.args.templates.now.nodes (g.K.Lookup.bindings c.args.known.now) (g.W.Lookup.bindings c.args.whole.now)
            (take c.loop-member.member-index c.args.candidates.now) c.loop-member.classes.items c.loop-member.invariant.0 _ w.in-Some.root w.in-Some.ensures
            (root-there c.loop-member.classes.items c.loop-member.roots w.meet.new.self c.loop-member.invariant.1 w.in-Some.root _ w.in_ok-meet.ensures.before w.in_ok-meet.ensures.met true w.if-not-branch.false),
        roots-same c.loop-member.classes.items c.loop-member.roots w.meet.new.self c.loop-member.invariant.1 w.in-Some.root _ w.in_ok-meet.ensures.before w.in_ok-meet.ensures.met w.if-not-branch.false,
      )
      | in_default w ↦ rw (w.classes-is, w.roots-is) (
        classes-headed c.args.templates.now.nodes (g.K.Lookup.bindings c.args.known.now) (g.W.Lookup.bindings c.args.whole.now)
            (take c.loop-member.member-index c.args.candidates.now) c.loop-member.classes.items c.loop-member.invariant.0 _ w.in_default.ensures,
        c.loop-member.invariant.1,
      )
    ])
