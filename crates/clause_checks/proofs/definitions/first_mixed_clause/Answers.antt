use Rattle.std.proofs.Common.{◌<◌, length, sym, ◌∙◌, arith}
use Rattle.clause_checks.proofs.Lists.{drop_front, drop_none}
use Rattle.clause_checks.proofs.Mixing.{mixed_start, mixed_found, mixed_next, mixed_end}
use Rattle.clause_checks.proofs.definitions.first_mixed_clause.Goals as goal

pub loop-clause-init : goal.loop-clause-init
loop-clause-init c = mixed_start c.args.listed.now c.requires.listed

pub returns-then-is_mixed-clause-found : goal.returns-then-is_mixed-clause-found
returns-then-is_mixed-clause-found c =
    let inside : c.loop-clause.clause-index < length c.args.listed.now = omega (arith, c.loop-clause-test.true, c.loop-clause.auto.clause-index-end) in
    mixed_found (rw (drop_front c.args.listed.now c.loop-clause.clause-index c.clause-item.result inside c.clause-item.is) at c.loop-clause.invariant) (sym c.is_mixed.ensures ∙ c.if-is_mixed.true)

pub loop-clause-preserved : goal.loop-clause-preserved
loop-clause-preserved c =
    let inside : c.loop-clause.clause-index < length c.args.listed.now = omega (arith, c.loop-clause-test.true, c.loop-clause.auto.clause-index-end) in
    mixed_next (rw (drop_front c.args.listed.now c.loop-clause.clause-index c.clause-item.result inside c.clause-item.is) at c.loop-clause.invariant) (sym c.is_mixed.ensures ∙ c.if-is_mixed.false)

pub returns-clause-found : goal.returns-clause-found
returns-clause-found c = (mixed_end (rw (drop_none c.args.listed.now c.loop-clause.clause-index (omega (arith, c.loop-clause-test.false, c.loop-clause.auto.clause-index-end))) at c.loop-clause.invariant)).0

pub returns-clause-unmixed : goal.returns-clause-unmixed
returns-clause-unmixed c = (mixed_end (rw (drop_none c.args.listed.now c.loop-clause.clause-index (omega (arith, c.loop-clause-test.false, c.loop-clause.auto.clause-index-end))) at c.loop-clause.invariant)).1
