use Rattle.std.proofs.Common.{arith}
use Rattle.akl_text.proofs.LayoutSkips.{skips_step, skips_none, skips_all}
use Rattle.akl_text.proofs.layout.layout_end.Goals as goal

pub loop-at-preserved : goal.loop-at-preserved
loop-at-preserved c = skips_step _ _ _ c.loop-at.invariant _ c.rest_from.ensures c.in-Some.len c.in-Some.ensures.found c.in-Some.ensures.within.1

pub returns-in-None-clause-skips : goal.returns-in-None-clause-skips
returns-in-None-clause-skips c = skips_none _ _ _ c.loop-at.invariant _ c.rest_from.ensures c.in-None.ensures.none

pub returns-clause-skips : goal.returns-clause-skips
returns-clause-skips c = skips_all _ _ _ c.loop-at.invariant (omega (arith, c.loop-at-test.false))
