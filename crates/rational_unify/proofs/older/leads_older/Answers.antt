use Rattle.std.proofs.Common.{◌≡◌, ◌+◌, true, take, arith}
use Rattle.std.proofs.lemmas.Bool.Decides.{nat_tests}
use Rattle.rational_unify.proofs.OlderEnds.{EachOlder-push}
use Rattle.rational_unify.proofs.Taking.{take-next, past}
use Rattle.rational_unify.proofs.older.leads_older.Goals as goal

pub loop-binding-preserved : goal.loop-binding-preserved
loop-binding-preserved c =
    let holds : c.is_to_older.result ≡ true = let f = c.if-not-is_to_older.false in let e = c.if-not-is_to_older.ensures in grind (arith, nat_tests) in
    rw (take-next c.args.bindings.now c.loop-binding.binding-index (c.loop-binding.binding-index + 1) past c.loop-binding-test.true (omega arith))
    (EachOlder-push c.args.templates.now.nodes (take c.loop-binding.binding-index c.args.bindings.now) _ c.loop-binding.invariant (c.is_to_older.ensures.0 holds))
