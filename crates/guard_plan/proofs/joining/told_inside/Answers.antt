use Rattle.std.proofs.lemmas.Result.{IfOk-weaker}
use Rattle.guard_plan.proofs.Joined.{told_last}
use Rattle.guard_plan.proofs.Listed.{known_inner}
use Rattle.guard_plan.proofs.joining.told_inside.Goals as goal

pub of_solved-chain-requires : goal.of_solved-chain-requires
of_solved-chain-requires c = rw (c.templates.ensures.nodes, c.as_slice.ensures.value, c.in_ok-push.ensures.items, c.in_ok-stores.ensures, c.stores.ensures, c.in_ok-share.ensures)
    (known_inner c.args.around.now.nodes c.args.around.now.stores c.args.inner.now c.known.result c.known.ensures.solved)

pub returns : goal.returns
returns c =
    let answer = rw (c.of_solved-chain.ensures, c.templates.ensures.nodes, c.as_slice.ensures.value, c.in_ok-push.ensures.items, c.in_ok-stores.ensures, c.stores.ensures, c.in_ok-share.ensures, c.known.ensures.known) at c.told.ensures.told in
    IfOk-weaker c.told.result _ _ (told_last c.args.around.now.nodes c.args.around.now.stores c.args.inner.now c.args.around.now.known c.args.equations.now) answer
