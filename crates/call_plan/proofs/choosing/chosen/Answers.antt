use Rattle.std.proofs.Common.{arith}
use Rattle.call_plan.proofs.SiftingOn.{names_behind}
use Rattle.call_plan.proofs.choosing.chosen.Goals as goal

pub others_go-requires-clause-numbers : goal.others_go-requires-clause-numbers
others_go-requires-clause-numbers c =
    let s = rw c.in-Some.is at c.in_ok-left.ensures in
    let n = names_behind c.args.chain.now.symbols c.args.chain.now.nodes c.args.chain.now.stores c.args.arguments c.args.first.worker c.args.first.number c.args.clauses.now c.args.sifted.now.labels.items c.args.sifted.now.plainly c.first_left.new.sifted.labels.items c.first_left.new.sifted.plainly c.in-Some.left s in
    omega (arith, n, c.requires.numbers)
