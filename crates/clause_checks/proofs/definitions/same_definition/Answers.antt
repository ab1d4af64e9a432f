use Rattle.std.proofs.Common.{◌≡◌, sym, true, false, length, refl, arith}
use Rattle.std.specs.Prelude.{◌==◌}
use Rattle.std.specs.Str.{bytes_eq}
use Rattle.std.proofs.lemmas.Bool.Decides.{nat_tests}
use Rattle.clause_checks.proofs.SameCallee.{defines, same_lifted, kinds_by_test, lifted_not_named, named_not_lifted}
use Rattle.clause_checks.proofs.definitions.same_definition.Goals as goal

pub returns-then-eq : goal.returns-then-eq
returns-then-eq c =
    let e : bytes_eq c.in-Named.symbol c.in-Named-head.found ≡ true = cc in
    let m : length c.args.clause.now.arguments.items ≡ c.len.result = omega arith in
    let n : length c.args.other.now.arguments.items ≡ c.len-then-eq.result = omega arith in
    rw (defines c.args.clause.now, defines c.args.other.now, c.in-Named.is, c.in-Named-head.is, e, m, n) refl

pub returns-else-eq : goal.returns-else-eq
returns-else-eq c =
    let e : bytes_eq c.in-Named.symbol c.in-Named-head.found ≡ false = cc in
    rw (defines c.args.clause.now, defines c.args.other.now, c.in-Named.is, c.in-Named-head.is, e) c.if-eq.false

pub returns-in-Lifted-head : goal.returns-in-Lifted-head
returns-in-Lifted-head c =
    rw (defines c.args.clause.now, defines c.args.other.now, c.in-Named.is, c.in-Lifted-head.is)
    (sym (named_not_lifted c.args.other.now.part.op c.in-Named.symbol (length c.args.clause.now.arguments.items) c.in-Lifted-head.number (length c.args.other.now.arguments.items)))

pub returns-in-Named-head-2 : goal.returns-in-Named-head-2
returns-in-Named-head-2 c =
    rw (defines c.args.clause.now, defines c.args.other.now, c.in-Lifted.is, c.in-Named-head-2.is)
    (sym (lifted_not_named c.args.clause.now.part.op c.in-Lifted.number (length c.args.clause.now.arguments.items) _ (length c.args.other.now.arguments.items)))

pub returns-then-collects : goal.returns-then-collects
returns-then-collects c =
    let kinds = kinds_by_test _ _ _ _ true c.collects.ensures c.collects-in-Lifted-head-2.ensures c.if-collects.true in
    rw (defines c.args.clause.now, defines c.args.other.now, c.in-Lifted.is, c.in-Lifted-head-2.is, same_lifted c.args.clause.now.part.op c.args.other.now.part.op, kinds) refl

pub returns-then-number-found : goal.returns-then-number-found
returns-then-number-found c =
    let kinds = kinds_by_test _ _ _ _ false c.collects.ensures c.collects-in-Lifted-head-2.ensures c.if-collects.false in
    let e : c.in-Lifted.number == c.in-Lifted-head-2.found ≡ true = grind (arith, nat_tests) in
    let m : length c.args.clause.now.arguments.items ≡ c.len-then-number-found.result = omega arith in
    let n : length c.args.other.now.arguments.items ≡ c.len-then-number-found-2.result = omega arith in
    rw (defines c.args.clause.now, defines c.args.other.now, c.in-Lifted.is, c.in-Lifted-head-2.is, same_lifted c.args.clause.now.part.op c.args.other.now.part.op, kinds, e, m, n) refl

pub returns-else-number-found : goal.returns-else-number-found
returns-else-number-found c =
    let kinds = kinds_by_test _ _ _ _ false c.collects.ensures c.collects-in-Lifted-head-2.ensures c.if-collects.false in
    let e : c.in-Lifted.number == c.in-Lifted-head-2.found ≡ false = grind (arith, nat_tests) in
    rw (defines c.args.clause.now, defines c.args.other.now, c.in-Lifted.is, c.in-Lifted-head-2.is, same_lifted c.args.clause.now.part.op c.args.other.now.part.op, kinds, e) refl
