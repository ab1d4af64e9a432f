-- With what a run ends, of which the clauses of private functions speak.
use Rattle.std.specs.Prelude.{ℕ, ◌-◌, ◌==◌, nat_lt, if◌then◌else◌}
use Rattle.akl_model.specs.Derivations.{Outcome, done, failed, suspended, out_of_budget}
use Rattle.seq_engine.specs.declared.run.End.{End}
use Rattle.akl_run.specs.declared.report.Status.{Status}
use Rattle.akl_run.specs.declared.ending.Ending.{Ending}

-- by the end of the run, and the numbers of root boxes and of answers
abbrev pub ending_by : End → ℕ → ℕ → Ending
ending_by End.Spent roots answers = Ending.Budget
ending_by End.Quiet roots answers = if nat_lt answers roots then Ending.Suspended (roots - answers) else if roots == 0 then Ending.Failed else Ending.Done

abbrev pub status_by : Ending → Status
status_by Ending.Done = Status.Done
status_by Ending.Failed = Status.Failed
status_by (Ending.Suspended left) = Status.Suspended
status_by Ending.Budget = Status.Budget

abbrev pub outcome_by : Ending → Outcome
outcome_by Ending.Done = done
outcome_by Ending.Failed = failed
outcome_by (Ending.Suspended left) = suspended left
outcome_by Ending.Budget = out_of_budget
