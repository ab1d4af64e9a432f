-- What is listed for a step is what its label changes, case by case.
use Rattle.std.proofs.Common.{List}
use Rattle.std.specs.Prelude.{slice_index}
use Rattle.akl_model.specs.declared.label.Rule.{Rule}
use Rattle.akl_model.specs.declared.label.Label.{Label}
use Rattle.akl_model.specs.Config.{Config}
use Rattle.akl_model.specs.Derivations.{Applies}
use Rattle.table_laws.specs.Rows.{Table}
use Rattle.table_laws.specs.Stamped.{Run, IsTableOf}
use Rattle.table_laws.specs.Steps.{Step, tells, forks, fails, cuts, joins, refutes, confirms, splits, Makes}
use Rattle.opened_places.specs.declared.around.Around.{Around}
use Rattle.opened_places.proofs.ListedPlaces.{listed}
use Rattle.opened_places.specs.Exact.{IsAround, AreExactly}
use Rattle.opened_places.proofs.RowSteps as rows
use Rattle.opened_places.proofs.RefuteStep as refute
use Rattle.opened_places.proofs.PromoteStep as promote
use Rattle.opened_places.proofs.ForkStep as fork
use Rattle.opened_places.proofs.CutStep as cut
use Rattle.opened_places.proofs.FailStep as fail
use Rattle.opened_places.proofs.SplitSteps as split

pub exact : (rules : List Rule) (r : Run) (T : Table) (l : Label) (d : Config) (t : IsTableOf rules r T) (a : Applies rules r.program t.config l d) (x : Around) (k : IsAround T l x) (step : Step)
    → Makes r.program l (slice_index t.config.next l.worker) a.site step → AreExactly t.config d (listed l.place x step)
exact rules r T l d t a x k (tells new solved) makes = rows.told rules r T l d t a x k new solved makes
exact rules r T l d t a x k (forks op news) makes = fork.forked rules r T l d t a op news makes x k
exact rules r T l d t a x k fails makes = fail.failed rules r T l d t a x k makes
exact rules r T l d t a x k cuts makes = cut.was_cut rules r T l d t a x k makes
exact rules r T l d t a x k (joins new solved goals) makes = promote.promoted rules r T l d t a new solved goals makes x k
exact rules r T l d t a x k refutes makes = refute.refuted rules r T l d t a x k makes
exact rules r T l d t a x k confirms makes = rows.confirmed rules r T l d t a x k makes
exact rules r T l d t a x k (splits copy copies) makes = split.was_split rules r T l d t a copy copies makes x k
