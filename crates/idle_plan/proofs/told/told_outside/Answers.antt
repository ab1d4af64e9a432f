use Rattle.idle_plan.proofs.Answered.{clash_told, quiet_told, noisy_told}
use Rattle.idle_plan.proofs.told.told_outside.Goals as goal

pub returns-in-Inconsistent : goal.returns-in-Inconsistent
returns-in-Inconsistent c = clash_told c.args.chain.now.nodes c.args.chain.now.stores c.in-Inconsistent.left c.in-Inconsistent.right (rw c.in-Inconsistent.is at (c.in_ok-quiet.ensures.answer c.requires))

pub returns-in-Quiet : goal.returns-in-Quiet
returns-in-Quiet c = rw c.new-none.ensures.items (quiet_told c.args.chain.now.nodes c.args.chain.now.stores (rw c.in-Quiet.is at (c.in_ok-quiet.ensures.answer c.requires)))

pub returns-in_ok-list-in-Noisy : goal.returns-in_ok-list-in-Noisy
returns-in_ok-list-in-Noisy c =
    let a = rw c.in-Noisy.is at (c.in_ok-quiet.ensures.answer c.requires) in
    let m = rw (c.outer-around.ensures.nodes, c.outer-around.ensures.stores, c.as_slice.ensures.value, c.saturating_sub-depth.ensures, c.stores.ensures) at c.in_ok-list-in-Noisy.ensures.members in
    noisy_told c.args.chain.now.nodes c.args.chain.now.stores c.in-Noisy.on.items c.in_ok-list-in-Noisy.list.items a.0 a.2 m
