use Rattle.std.proofs.lemmas.Result.{IfOk-weaker}
use Rattle.guard_plan.proofs.Joined.{promoted_over}
use Rattle.guard_plan.proofs.joining.joined.Goals as goal

pub returns : goal.returns
returns c =
    let answer = rw (c.of_solved-chain.ensures, c.templates.ensures.nodes, c.as_slice.ensures.value, c.in_ok-push.ensures.items, c.in_ok-stores.ensures, c.stores.ensures, c.known.ensures.known) at c.promoted.ensures.promoted in
    IfOk-weaker c.promoted.result _ _ (promoted_over c.args.around.now.nodes c.args.around.now.stores c.args.inner c.args.around.now.known) answer
