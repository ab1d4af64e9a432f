use Rattle.akl_run.proofs.AllModels.{HaveModels}
use Rattle.akl_run.proofs.models.all_models.Given as goal

abbrev pub invariant-loop-name : goal.invariant-loop-name
invariant-loop-name l = record { have : HaveModels l.core l.name-index l.models.items }
