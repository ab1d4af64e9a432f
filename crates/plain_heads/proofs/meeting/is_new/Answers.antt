use Rattle.std.proofs.Common.{◌≡◌, length, arith}
use Rattle.std.proofs.lemmas.Bool.Decides.{nat_tests}
use Rattle.local_store.specs.Chained.{bindings_from}
use Rattle.plain_heads.proofs.Orders.{new_frame}
use Rattle.plain_heads.proofs.meeting.is_new.Goals as goal

pub returns : goal.returns
returns c = λ q.
    let some : length c.args.bindings.now ≡ 0 → ⊥ = grind (arith, nat_tests, c.is_empty.ensures, c.if-is_empty.false) in
    new_frame (bindings_from c.args.chain.now.stores) c.args.bindings.now c.args.frame some c.requires
