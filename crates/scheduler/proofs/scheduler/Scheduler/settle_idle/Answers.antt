use Rattle.std.proofs.Common.{◌≡◌, Some, refl, sym, subst, ◌∙◌}
use Rattle.box_tree.specs.Tables.{TableValue, table_of}
use Rattle.wake_lists.specs.Open.{Openings, IsOpen, closed}
use Rattle.scheduler.specs.Schedulers.{SchedulerValue}
use Rattle.scheduler.specs.Nearest.{IsQuietCandidate}
use Rattle.scheduler.specs.Settling.{OpensCandidate}
use Rattle.scheduler.specs.Settled.{IsFoundIdle, Settles, IsUnchanged}
use Rattle.scheduler.specs.Splits.{KeepsPlace, KeepsSplits, AreSplitsOf, AreEnough}
use Rattle.scheduler.proofs.OpenedMore.{its_open}
use Rattle.scheduler.proofs.SettleKept.{settled_scheduler, settled_so}
use Rattle.scheduler.proofs.SettleCalls.{waits_none, candidate_back, same_scheduler}
use Rattle.scheduler.proofs.SplitsKept.{place_kept, place_enough, settled_splits}
use Rattle.scheduler.proofs.CoreTables.{of_run}
use Rattle.scheduler.proofs.scheduler.Scheduler.settle_idle.Goals as goal

pub quiet_candidate-nearest-requires-clause-run : goal.quiet_candidate-nearest-requires-clause-run
quiet_candidate-nearest-requires-clause-run c = of_run c.self.inside.core c.table-2.ensures.core c.table-2.result.now c.table-2.ensures.table

pub open_candidate-requires : goal.open_candidate-requires
open_candidate-requires c = of_run c.self.inside.core c.table-3.ensures.core c.table-3.result.now c.table-3.ensures.table

pub quiet_candidate-nearest-requires-clause-splits : goal.quiet_candidate-nearest-requires-clause-splits
quiet_candidate-nearest-requires-clause-splits c =
    let s : SchedulerValue = record { core = c.self.inside.core; openings = c.self.inside.open; waits = c.self.inside.waits } in
    let token : IsOpen s.openings c.args.place (Some c.in-Some.own) = subst (IsOpen s.openings c.args.place) c.in-Some.is c.token_of.ensures in
    let keeps : KeepsPlace (table_of s.core.table) c.args.place c.self.inside.splits c.keep.new.self =
    subst (λ (v : TableValue). KeepsPlace (table_of v) c.args.place c.self.inside.splits c.keep.new.self) c.table.ensures.table c.in_ok-keep.ensures.kept in
    subst (λ (v : TableValue). AreEnough v s.openings c.in-Some.own c.keep.new.self) (sym c.table-2.ensures.table)
    (place_enough s c.self.inside.splits c.keep.new.self c.self.invariant c.args.place keeps c.in-Some.own token)

pub suspend-requires : goal.suspend-requires
suspend-requires c =
    let s : SchedulerValue = record { core = c.self.inside.core; openings = c.self.inside.open; waits = c.self.inside.waits } in
    waits_none s c.self.invariant.scheduler c.args.place (its_open s.openings c.args.place c.in-Some.own (subst (IsOpen s.openings c.args.place) c.in-Some.is c.token_of.ensures))

pub invariant_of-self-in_err-found : goal.invariant_of-self-in_err-found
invariant_of-self-in_err-found c =
    let s : SchedulerValue = record { core = c.self.inside.core; openings = c.self.inside.open; waits = c.self.inside.waits } in
    let keeps : KeepsPlace (table_of s.core.table) c.args.place c.self.inside.splits c.keep.new.self =
    subst (λ (v : TableValue). KeepsPlace (table_of v) c.args.place c.self.inside.splits c.keep.new.self) c.table.ensures.table c.in_ok-keep.ensures.kept in
    subst (λ (os : Openings). KeepsSplits (record s { openings = os }) c.keep.new.self) (sym c.in_err-found.ensures.unchanged) (place_kept s c.self.inside.splits c.keep.new.self c.self.invariant c.args.place keeps)

pub invariant_of-self-in-Err : goal.invariant_of-self-in-Err
invariant_of-self-in-Err c =
    let s : SchedulerValue = record { core = c.self.inside.core; openings = c.self.inside.open; waits = c.self.inside.waits } in
    let keeps : KeepsPlace (table_of s.core.table) c.args.place c.self.inside.splits c.keep.new.self =
    subst (λ (v : TableValue). KeepsPlace (table_of v) c.args.place c.self.inside.splits c.keep.new.self) c.table.ensures.table c.in_ok-keep.ensures.kept in
    let back : c.close_one.new.open_places ≡ s.openings =
    c.close_one.ensures ∙ candidate_back c.table-3.result.now s.openings c.quiet_candidate-nearest.result c.open_candidate.new.open_places c.in_ok-found.found c.in_ok-found.ensures.opened in
    record {
      scheduler = same_scheduler s c.self.invariant.scheduler c.close_one.new.open_places c.suspend.new.self back c.in-Err.ensures.unchanged;
      splits = subst (λ (os : Openings). AreSplitsOf (table_of s.core.table) os c.keep.new.self) (sym back) (place_kept s c.self.inside.splits c.keep.new.self c.self.invariant c.args.place keeps).splits;
    }

pub returns-in-Err-clause-unchanged : goal.returns-in-Err-clause-unchanged
returns-in-Err-clause-unchanged c =
    subst (λ (x : SchedulerValue). IsUnchanged x (record { core = c.self.inside.core; openings = c.close_one.new.open_places; waits = c.suspend.new.self })) c.self.view_is (record {
      core = refl;
      openings = c.close_one.ensures ∙ candidate_back c.table-3.result.now c.self.inside.open c.quiet_candidate-nearest.result c.open_candidate.new.open_places c.in_ok-found.found c.in_ok-found.ensures.opened;
      waits = c.in-Err.ensures.unchanged;
    })

pub invariant_of-self-2 : goal.invariant_of-self-2
invariant_of-self-2 c =
    let s : SchedulerValue = record { core = c.self.inside.core; openings = c.self.inside.open; waits = c.self.inside.waits } in
    let idle : IsFoundIdle s.core c.args.place c.args.on.now = subst (λ (x : SchedulerValue). IsFoundIdle x.core c.args.place c.args.on.now) (sym c.self.view_is) c.requires in
    let token : IsOpen s.openings c.args.place (Some c.in-Some.own) = subst (IsOpen s.openings c.args.place) c.in-Some.is c.token_of.ensures in
    let keeps : KeepsPlace (table_of s.core.table) c.args.place c.self.inside.splits c.keep.new.self =
    subst (λ (v : TableValue). KeepsPlace (table_of v) c.args.place c.self.inside.splits c.keep.new.self) c.table.ensures.table c.in_ok-keep.ensures.kept in
    let quiet : IsQuietCandidate s.core.table s.openings c.in-Some.own c.args.place c.quiet_candidate-nearest.result =
    subst (λ (v : TableValue). IsQuietCandidate v s.openings c.in-Some.own c.args.place c.quiet_candidate-nearest.result) c.table-2.ensures.table c.quiet_candidate-nearest.ensures in
    let opens : OpensCandidate s.core.table s.openings c.quiet_candidate-nearest.result c.open_candidate.new.open_places c.in_ok-found.found =
    subst (λ (v : TableValue). OpensCandidate v s.openings c.quiet_candidate-nearest.result c.open_candidate.new.open_places c.in_ok-found.found) c.table-3.ensures.table c.in_ok-found.ensures.opened in
    let d : SchedulerValue = record { core = s.core; openings = closed c.in-Some.own c.open_candidate.new.open_places; waits = c.drop_candidate.new.waits } in
    subst (λ (os : Openings). KeepsSplits (record { core = s.core; openings = os; waits = c.drop_candidate.new.waits }) c.keep.new.self) (sym c.close.ensures)
    (settled_splits s c.self.inside.splits c.keep.new.self c.self.invariant c.args.place keeps c.in-Some.own token d
    (settled_scheduler s c.self.invariant.scheduler c.args.place c.args.on.now idle c.in-Some.own token c.quiet_candidate-nearest.result quiet c.open_candidate.new.open_places c.in_ok-found.found opens c.suspend.new.self c.in_default-suspend.ensures.kept
    c.drop_candidate.new.waits c.drop_candidate.ensures) c.args.on.now c.in_ok-found.found
    (settled_so s c.self.invariant.scheduler c.args.place c.args.on.now idle c.in-Some.own token c.quiet_candidate-nearest.result quiet c.open_candidate.new.open_places c.in_ok-found.found opens c.suspend.new.self c.in_default-suspend.ensures.kept
    c.drop_candidate.new.waits c.drop_candidate.ensures))

pub returns-clause-settled : goal.returns-clause-settled
returns-clause-settled c =
    let s : SchedulerValue = record { core = c.self.inside.core; openings = c.self.inside.open; waits = c.self.inside.waits } in
    let idle : IsFoundIdle s.core c.args.place c.args.on.now = subst (λ (x : SchedulerValue). IsFoundIdle x.core c.args.place c.args.on.now) (sym c.self.view_is) c.requires in
    let token : IsOpen s.openings c.args.place (Some c.in-Some.own) = subst (IsOpen s.openings c.args.place) c.in-Some.is c.token_of.ensures in
    let quiet : IsQuietCandidate s.core.table s.openings c.in-Some.own c.args.place c.quiet_candidate-nearest.result =
    subst (λ (v : TableValue). IsQuietCandidate v s.openings c.in-Some.own c.args.place c.quiet_candidate-nearest.result) c.table-2.ensures.table c.quiet_candidate-nearest.ensures in
    let opens : OpensCandidate s.core.table s.openings c.quiet_candidate-nearest.result c.open_candidate.new.open_places c.in_ok-found.found =
    subst (λ (v : TableValue). OpensCandidate v s.openings c.quiet_candidate-nearest.result c.open_candidate.new.open_places c.in_ok-found.found) c.table-3.ensures.table c.in_ok-found.ensures.opened in
    subst (λ (x : SchedulerValue). Settles x c.args.place c.args.on.now (record { core = c.self.inside.core; openings = c.close.new.self; waits = c.drop_candidate.new.waits }) c.in_ok-found.found) c.self.view_is
    (subst (λ (os : Openings). Settles s c.args.place c.args.on.now (record { core = s.core; openings = os; waits = c.drop_candidate.new.waits }) c.in_ok-found.found) (sym c.close.ensures)
    (settled_so s c.self.invariant.scheduler c.args.place c.args.on.now idle c.in-Some.own token c.quiet_candidate-nearest.result quiet c.open_candidate.new.open_places c.in_ok-found.found opens c.suspend.new.self c.in_default-suspend.ensures.kept
    c.drop_candidate.new.waits c.drop_candidate.ensures))
