use Rattle.std.proofs.Common.{sym, ◌+◌, ◌<◌, ◌^◌, length, arith}
use Rattle.rational_unify.proofs.Heads.{struct-within}
use Rattle.arith_goals.proofs.Naming.{symbol-other, application-seen}
use Rattle.arith_goals.proofs.expression.applied.Goals as goal

pub returns-in_default-operation_of : goal.returns-in_default-operation_of
returns-in_default-operation_of c = symbol-other c.args.templates.now c.args.term c.args.symbol c.args.first 2 c.requires.seen.0 c.requires.seen.1 (sym c.in_default-operation_of.ensures)

pub overflow_add-result : goal.overflow_add-result
overflow_add-result c =
    let w : c.args.first + 2 < length c.args.templates.now.nodes = struct-within c.args.templates.now.nodes c.args.term c.args.symbol c.args.first 2 c.requires.seen.0 c.len.ensures.arranged c.requires.seen.1 in
    let l : length c.args.templates.now.nodes < 2 ^ 32 = c.len.ensures.small in
    omega arith

pub returns : goal.returns
returns c = rw c.in-Mol.is (application-seen c.args.templates.now c.in-Mol.node c.args.symbol c.args.first c.in-Mol.frame c.in-Some.operation c.len.ensures.arranged
    (rw c.in-Mol.is at c.requires.seen) (sym c.in-Some.ensures))
