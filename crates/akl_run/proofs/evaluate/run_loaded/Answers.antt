use Rattle.std.proofs.Common.{ℕ, IfOk, sym, subst}
use Rattle.akl_run.specs.Evaluations.{HasFinished}
use Rattle.akl_run.proofs.evaluate.run_loaded.Goals as goal

pub returns-then-workers-eq1 : goal.returns-then-workers-eq1
returns-then-workers-eq1 g c = subst (λ (n : ℕ). IfOk c.run_loaded_alone.result (HasFinished c.args.loaded.now n c.args.budget)) (sym c.if-workers-eq1.true) c.run_loaded_alone.ensures
