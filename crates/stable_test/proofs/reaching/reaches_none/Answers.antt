use Rattle.std.proofs.Common.{arith}
use Rattle.std.specs.Vec.{vec_len}
use Rattle.stable_test.proofs.Tested.{none_reached}
use Rattle.stable_test.proofs.reaching.reaches_none.Goals as goal

pub returns-in-Some : goal.returns-in-Some
returns-in-Some c =
    let r = rw c.in-Some.is at c.in_ok-list.ensures in
    none_reached c.args.program.now c.args.depth c.args.frames.now c.args.view.now c.requires c.in-Some.list.items r (vec_len c.in-Some.list) (omega (arith, c.in-Some.list.ok)) c.is_empty.result c.is_empty.ensures
