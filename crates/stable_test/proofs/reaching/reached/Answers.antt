use Rattle.stable_test.proofs.InnerViews.{inner_testable, inner_touched, inner_none}
use Rattle.stable_test.proofs.reaching.reached.Goals as goal

pub reached_at-requires : goal.reached_at-requires
reached_at-requires c = inner_testable c.args.program.now c.args.depth c.args.frames.now c.args.view.now c.requires

pub returns-in-Some : goal.returns-in-Some
returns-in-Some c = let r = rw c.in-Some.is at c.in_ok-list.ensures in λ s. inner_touched c.args.program.now c.args.depth c.args.frames.now c.args.view.now s c.in-Some.list.items r

pub returns-in-None : goal.returns-in-None
returns-in-None c =
    let r = rw c.in-None.is at c.in_ok-list.ensures in
    λ s. rw c.new.ensures.items (inner_none c.args.program.now c.args.depth c.args.frames.now c.args.view.now s r)
