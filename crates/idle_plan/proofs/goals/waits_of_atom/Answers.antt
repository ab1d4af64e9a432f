use Rattle.std.proofs.lemmas.Result.{IfOk-weaker}
use Rattle.idle_plan.proofs.Awaiting.{found_awaited, none_awaited}
use Rattle.idle_plan.proofs.goals.waits_of_atom.Goals as goal

pub returns-in-None : goal.returns-in-None
returns-in-None c = rw c.new.ensures.items
    (none_awaited c.args.program.now c.args.view.now.stores c.args.atom c.in-Arith.test c.in-Arith.left c.in-Arith.right c.in-Arith.is c.args.noise.now c.requires.noise c.in-None.ensures.value)

pub returns-in-Some : goal.returns-in-Some
returns-in-Some c =
    let m = rw (c.chain.ensures.nodes, c.chain.ensures.stores, c.as_slice.ensures.value) at c.members.ensures.members in
    IfOk-weaker c.members.result _ _
    (λ list h. found_awaited c.args.program.now c.args.view.now.stores c.args.atom c.in-Arith.test c.in-Arith.left c.in-Arith.right c.in-Arith.is c.args.noise.now c.requires.noise
    c.in-Some.found.now c.in-Some.ensures.value list.items h) m
