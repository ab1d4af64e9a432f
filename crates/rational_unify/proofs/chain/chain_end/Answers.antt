use Rattle.std.proofs.Common.{sym, ◌∙◌}
use Rattle.rational_unify.proofs.Chains.{next_falls, next_walks}
use Rattle.rational_unify.proofs.chain.chain_end.Goals as goal

pub loop-next-smaller : goal.loop-next-smaller
loop-next-smaller g c = next_falls _ _ _ _ c.requires (sym c.in-Some.ensures)

pub loop-next-preserved : goal.loop-next-preserved
loop-next-preserved g c = sym (next_walks _ _ _ _ c.requires (sym c.in-Some.ensures)) ∙ c.loop-next.invariant
