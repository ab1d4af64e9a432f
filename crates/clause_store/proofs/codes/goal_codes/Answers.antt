use Rattle.std.proofs.Common.{arith}
use Rattle.std.proofs.lemmas.List.{append-nil}
use Rattle.akl_syntax.specs.GoalView.{goal}
use Rattle.clause_keys.specs.Conditions.{IsLoadable}
use Rattle.clause_store.proofs.Sums.{more_taken, next_taken, goals_sum, mapped_all}
use Rattle.clause_store.proofs.Coded.{goals_start, goals_more, goal_room}
use Rattle.clause_store.proofs.codes.goal_codes.Goals as given
use Rattle.clause_store.proofs.codes.goal_codes.Goals.{in-Some+in_ok-push, in_default}

pub loop-goal-init : given.loop-goal-init
loop-goal-init c = rw c.new-codes.ensures.items (goals_start _)

pub goal_code-requires-clause-loadable : given.goal_code-requires-clause-loadable
goal_code-requires-clause-loadable c = mapped_all (IsLoadable c.args.callees.now) goal c.args.written.now c.loop-goal.goal-index c.goal-item.result (omega (arith, c.loop-goal-test.true, c.loop-goal.auto.goal-index-end)) c.goal-item.is c.requires.loadable

pub goal_code-requires-clause-room : given.goal_code-requires-clause-room
goal_code-requires-clause-room c =
    goal_room c.requires.room c.loop-goal.invariant (next_taken goals_sum goal c.args.written.now c.loop-goal.goal-index c.goal-item.result (omega (arith, c.loop-goal-test.true, c.loop-goal.auto.goal-index-end)) c.goal-item.is)

pub loop-goal-preserved : given.loop-goal-preserved
loop-goal-preserved c =
    let taken = more_taken goal c.args.written.now c.loop-goal.goal-index c.goal-item.result (omega (arith, c.loop-goal-test.true, c.loop-goal.auto.goal-index-end)) c.goal-item.is in
    let more = goals_more c.loop-goal.invariant c.in_ok-code.ensures in
    elim c.match-branch-2.branch [
      | in-Some+in_ok-push w ↦ rw (taken, w.codes-is, w.in_ok-push.ensures.items) (rw w.in-Some.is at more)
      | in_default w ↦ rw (taken, w.codes-is) (rw (w.in_default.is, append-nil c.loop-goal.codes.items) at more)
    ]
