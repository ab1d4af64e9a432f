use Rattle.std.proofs.Common.{List, ◌++◌, ◌∷◌, [], Vec, ap, sym, subst, refl, ◌∙◌}
use Rattle.std.specs.Global.{Global}
use Rattle.akl_model.specs.declared.label.Receipt.{Receipt}
use Rattle.par_workers.specs.Crews.{lists}
use Rattle.akl_run.specs.Reports.{AreAllPlannedLast}
use Rattle.akl_run.proofs.Workers.{has_run_alone}
use Rattle.akl_run.proofs.evaluate.run_alone.Goals as goal

pub returns-clause-run : goal.returns-clause-run
returns-clause-run c =
    has_run_alone c.args.core c.in_ok-run.run' c.requires.workers c.in_ok-run.ensures _ refl
    (c.in_ok-push.ensures.items ∙ ap (λ xs. xs ++ c.in_ok-run.run'.receipts ∷ []) c.new-receipts.ensures.items) refl

pub returns-clause-planned : goal.returns-clause-planned
returns-clause-planned c =
    subst (λ (vs : List (Vec Receipt Global)). AreAllPlannedLast (lists vs))
    (sym (c.in_ok-push.ensures.items ∙ ap (λ xs. xs ++ c.in_ok-run.run'.receipts ∷ []) c.new-receipts.ensures.items)) (c.in_ok-run.ensures.kept.planned, tt)
