use Rattle.std.proofs.Common.{List, sym, subst}
use Rattle.akl_terms.specs.declared.name.Var.{Var}
use Rattle.akl_terms.specs.declared.name.Place.{Place}
use Rattle.step_commit.specs.Cores.{IsCore}
use Rattle.box_tree.specs.Tables.{table_of}
use Rattle.scheduler.specs.declared.splits.Split.{Split}
use Rattle.scheduler.specs.Schedulers.{IsScheduler}
use Rattle.scheduler.specs.Splits.{AreSplitsOf}
use Rattle.scheduler.proofs.SplitsKept.{started_splits}
use Rattle.scheduler.proofs.Starting.{started, there_open}
use Rattle.scheduler.proofs.scheduler.Scheduler.new.Goals as goal

pub invariant_of-result : goal.invariant_of-result
invariant_of-result c =
    let core : IsCore c.args.core = subst IsCore c.core.view_is c.core.invariant in
    record {
      scheduler = subst (λ (ws : List (Var × List Place)). IsScheduler (record { core = c.args.core; openings = c.in_ok-open.open; waits = ws })) (sym c.new.ensures)
          (started c.args.core c.in_ok-open.open core c.requires c.in_ok-open.ensures);
      splits = subst (λ (ss : List Split). AreSplitsOf (table_of c.args.core.table) c.in_ok-open.open ss) (sym c.new-2.ensures) (started_splits c.args.core c.in_ok-open.open core c.in_ok-open.ensures);
    }

pub returns-clause-open : goal.returns-clause-open
returns-clause-open c = record {
  all = c.in_ok-open.ensures.all;
  only = λ t place w. there_open c.args.core c.in_ok-open.open c.in_ok-open.ensures t place w;
  once = c.in_ok-open.ensures.once;
  tokens = c.in_ok-open.ensures.tokens;
}
