use Rattle.std.proofs.Common.{◌≡◌, ◌≤◌, length, is_some, refl, ◌∙◌, arith}
use Rattle.clause_keys.specs.Keys.{named}
use Rattle.clause_keys.specs.declared.callee.Callee.TheVariants.{Lifted, Collecting}
use Rattle.clause_keys.specs.Reserved.{reserved_of}
use Rattle.clause_checks.proofs.Counting.{call_is, call_count, call_bound, lifted_bound, lifted_is, lifted_collect_bound, lifted_collect_is}
use Rattle.clause_checks.proofs.SameCallee.{known_callee}
use Rattle.clause_checks.proofs.calls.is_defined.Goals as goal

pub overflow_cast-len : goal.overflow_cast-len
overflow_cast-len c =
    let b : length c.in-Call.arguments.items ≤ 1000000 = call_bound c.args.written.now c.in-Call.symbol c.in-Call.arguments 1000000 c.in-Call.is c.requires in
    omega (arith, b)

pub returns-then-is_some : goal.returns-then-is_some
returns-then-is_some c =
    let reserved : is_some (reserved_of c.in-Call.symbol (length c.in-Call.arguments.items)) ≡ c.is_some.result = cc in
    rw (call_is c.args.written.now c.in-Call.symbol c.in-Call.arguments c.in-Call.is, call_count c.in-Call.arguments, reserved, c.if-is_some.true) refl

pub returns-else-is_some : goal.returns-else-is_some
returns-else-is_some c =
    let reserved : is_some (reserved_of c.in-Call.symbol (length c.in-Call.arguments.items)) ≡ c.is_some.result = cc in
    let called = known_callee c.args.callees.now (named c.as_str-symbol.result.now c.len-else-is_some.result) c.named.result c.named.ensures.found c.named.ensures.absent in
    rw (call_is c.args.written.now c.in-Call.symbol c.in-Call.arguments c.in-Call.is, call_count c.in-Call.arguments, reserved, c.if-is_some.false) (let k : named c.in-Call.symbol (length c.in-Call.arguments.items) ≡ named c.as_str-symbol.result.now c.len-else-is_some.result = cc in rw k (c.is_some-else-is_some.ensures ∙ called))

pub overflow_cast-len-in-Lifted : goal.overflow_cast-len-in-Lifted
overflow_cast-len-in-Lifted c = (
    let b : length c.in-Lifted.arguments.items ≤ 1000000 = lifted_bound c.args.written.now c.in-Lifted.number c.in-Lifted.arguments 1000000 c.in-Lifted.is c.requires in
    omega (arith, b))

pub returns-in-Lifted : goal.returns-in-Lifted
returns-in-Lifted c =
    let n : c.len-in-Lifted.result ≡ length c.in-Lifted.arguments.items = omega arith in
    let called = known_callee c.args.callees.now (Lifted c.in-Lifted.number c.len-in-Lifted.result) c.lifted.result c.lifted.ensures.found c.lifted.ensures.absent in
    rw (c.in-Lifted.is, lifted_is c.in-Lifted.number c.in-Lifted.arguments, ← n) (c.is_some-in-Lifted.ensures ∙ called)

pub overflow_cast-len-in-LiftedCollect : goal.overflow_cast-len-in-LiftedCollect
overflow_cast-len-in-LiftedCollect c = (
    let b : length c.in-LiftedCollect.arguments.items ≤ 1000000 = lifted_collect_bound c.args.written.now c.in-LiftedCollect.number c.in-LiftedCollect.arguments c.in-LiftedCollect.result 1000000 c.in-LiftedCollect.is c.requires in
    omega (arith, b))

pub returns-in-LiftedCollect : goal.returns-in-LiftedCollect
returns-in-LiftedCollect c =
    let n : c.len-in-LiftedCollect.result ≡ length c.in-LiftedCollect.arguments.items = omega arith in
    let called = known_callee c.args.callees.now (Collecting c.in-LiftedCollect.number c.len-in-LiftedCollect.result) c.collecting.result c.collecting.ensures.found c.collecting.ensures.absent in
    rw (c.in-LiftedCollect.is, lifted_collect_is c.in-LiftedCollect.number c.in-LiftedCollect.arguments c.in-LiftedCollect.result, ← n) (c.is_some-in-LiftedCollect.ensures ∙ called)
