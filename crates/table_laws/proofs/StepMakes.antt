-- What a step makes of a table is a table of the run that goes on, case by case.
use Rattle.std.proofs.Common.{◌≡◌, ℕ, List, Option, refl}
use Rattle.std.specs.Prelude.{slice_index}
use Rattle.akl_model.specs.declared.label.Rule.{Rule}
use Rattle.akl_model.specs.declared.label.Label.{Label}
use Rattle.akl_model.specs.Config.{Config}
use Rattle.akl_model.specs.Derivations.{Applies}
use Rattle.table_laws.specs.Rows.{Table}
use Rattle.table_laws.specs.Stamped.{Run, followed_by, IsTableOf}
use Rattle.table_laws.specs.Steps.{Step, tells, forks, fails, cuts, joins, splits, Makes, IsSolvedWhen, refutes, confirms}
use Rattle.table_laws.specs.Writes.{IsTable, Leads}
use Rattle.table_laws.proofs.Told.{told_step}
use Rattle.table_laws.proofs.Forked.{fork_step}
use Rattle.table_laws.proofs.Failed.{failed_step}
use Rattle.table_laws.proofs.Cut.{cut_step}
use Rattle.table_laws.proofs.Promoted.{joined_step}
use Rattle.table_laws.proofs.Refuted.{refuted_step}
use Rattle.table_laws.proofs.Confirmed.{confirmed_step}
use Rattle.table_laws.proofs.Split.{split_step}

pub same_table : (T : Table) → IsTable T T
same_table T = record { nodes = refl; boxes = λ n. refl; goals = λ g. refl; roots = refl; roots_changed = refl; next = λ w. refl; steps = refl }

pub step_law : (rules : List Rule) (r : Run) (T U : Table) (l : Label) (d : Config) (t : IsTableOf rules r T) (a : Applies rules r.program t.config l d) (step : Step) (at : Option ℕ)
    → Makes r.program l (slice_index t.config.next l.worker) a.site step → IsSolvedWhen at T a.site step → Leads T l at a.change.drawn step U
    → (u : IsTableOf rules (followed_by r l) U) × (u.config ≡ d)
step_law rules r T U l d t a (tells new solved) at makes chain leads = told_step rules r T U l d t a at new solved makes chain leads
step_law rules r T U l d t a (forks op news) at makes chain leads = fork_step rules r T U l d t a op news at makes chain leads
step_law rules r T U l d t a fails at makes chain leads = failed_step rules r T U l d t a at a.change.drawn makes leads
step_law rules r T U l d t a cuts at makes chain leads = cut_step rules r T U l d t a at makes leads
step_law rules r T U l d t a (joins new solved goals) at makes chain leads = joined_step rules r T U l d t a at new solved goals makes chain leads
step_law rules r T U l d t a refutes at makes chain leads = refuted_step rules r T U l d t a at makes leads
step_law rules r T U l d t a confirms at makes chain leads = confirmed_step rules r T U l d t a at makes leads
step_law rules r T U l d t a (splits copy copies) at makes chain leads = split_step rules r T U l d t a at copy copies makes chain leads
