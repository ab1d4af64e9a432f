use Rattle.idle_plan.proofs.RootInside.{root_reached}
use Rattle.idle_plan.proofs.inside.waits_inside.Goals as goal

pub returns-then-depth-eq0 : goal.returns-then-depth-eq0
returns-then-depth-eq0 c = λ s. rw c.new.ensures.items (root_reached c.args.program.now c.args.depth c.args.inside.now s c.args.chain.now.stores c.if-depth-eq0.true)
