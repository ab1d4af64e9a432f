use Rattle.std.proofs.lemmas.Result.{IfOk-weaker}
use Rattle.rational_unify.proofs.Following.{AgreeOn-refl}
use Rattle.rational_unify.proofs.solver.solve_only.Goals as goal

pub returns-clause-solves : goal.returns-clause-solves
returns-clause-solves g c = IfOk-weaker c.solved_along.result _ _ (λ s h. h (g.K.Lookup.bindings c.args.known.now) c.requires.known (AgreeOn-refl _ _)) c.solved_along.ensures.followed
