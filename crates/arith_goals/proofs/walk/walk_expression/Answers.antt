use Rattle.arith_goals.proofs.Walks.{walk-starts, turn-goes, turn-stops, turn-falls}
use Rattle.arith_goals.proofs.Waiting.{turn-ends}
use Rattle.arith_goals.proofs.walk.walk_expression.Goals as goal

pub loop-walk-init : goal.loop-walk-init
loop-walk-init g c = λ E f. walk-starts c.args.templates.now E c.args.term (record { walking = c.new.result; progress = c.new-2.result; begun = 0 }) c.new.ensures.items c.new-2.ensures.empty

pub loop-walk-preserved : goal.loop-walk-preserved
loop-walk-preserved g c = λ E f. turn-goes c.args.templates.now (g.K.Lookup.bindings c.args.known.now) E f _ c.loop-walk.walk c.turn.new.self c.loop-walk.step c.in-Go.next (c.loop-walk.invariant E f)
    (rw c.in-Go.is at c.in_ok-next.ensures)

pub loop-walk-smaller : goal.loop-walk-smaller
loop-walk-smaller g c = turn-falls c.args.templates.now (g.K.Lookup.bindings c.args.known.now) c.loop-walk.walk c.turn.new.self c.loop-walk.step c.in-Go.next (rw c.in-Go.is at c.in_ok-next.ensures)

pub returns-in-Stop-clause-comes : goal.returns-in-Stop-clause-comes
returns-in-Stop-clause-comes g c = λ E f. turn-stops c.args.templates.now (g.K.Lookup.bindings c.args.known.now) E f _ c.loop-walk.walk c.turn.new.self c.loop-walk.step c.in-Stop.walked (c.loop-walk.invariant E f)
    (rw c.in-Stop.is at c.in_ok-next.ensures)

pub returns-in-Stop-clause-end : goal.returns-in-Stop-clause-end
returns-in-Stop-clause-end g c = turn-ends c.args.templates.now (g.K.Lookup.bindings c.args.known.now) c.requires c.loop-walk.walk c.turn.new.self c.loop-walk.step c.in-Stop.walked
    (rw c.in-Stop.is at c.in_ok-next.ensures)
