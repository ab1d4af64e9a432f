use Rattle.std.proofs.Common.{◌∙◌, ◌++◌, ap}
use Rattle.akl_run.specs.Text.{outcome_line}
use Rattle.akl_run.specs.Endings.{outcome_by}
use Rattle.akl_run.proofs.Appended.{no_memory_for, broke_as_text}
use Rattle.akl_run.proofs.Evaluated.{some_line}
use Rattle.akl_run.proofs.Loading.{from_error, if_error}
use Rattle.akl_run.proofs.writing.write_ending.Goals as goal

pub returns-in_err-push_ending-clause-broken : goal.returns-in_err-push_ending-clause-broken
returns-in_err-push_ending-clause-broken g c = from_error c.from_residual.result c.from_residual.ensures.1 (λ cause p. rw p (no_memory_for _ _ (some_line c.args.ending)))

pub returns-clause-broken : goal.returns-clause-broken
returns-clause-broken g c = if_error c.append.result c.append.ensures.broken (λ cause b. broke_as_text _ _ (c.deref.ensures.value ∙ c.in_ok-push_ending.ensures ∙ ap (λ xs. xs ++ outcome_line (outcome_by c.args.ending)) c.new-line.ensures.items) b)
