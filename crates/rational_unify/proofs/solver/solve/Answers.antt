use Rattle.rational_unify.proofs.Following.{AgreeOn-refl}
use Rattle.rational_unify.proofs.solver.solve.Goals as goal

pub returns-clause-solves : goal.returns-clause-solves
returns-clause-solves g c = c.in_ok-solved.ensures.followed (g.K.Lookup.bindings c.args.known.now) c.requires.known (AgreeOn-refl _ _)
