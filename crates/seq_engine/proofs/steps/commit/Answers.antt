use Rattle.std.proofs.Common.{List, ◌++◌, ◌-◌, drop, refl, ap, subst, ◌∙◌}
use Rattle.std.proofs.lemmas.List.{take_rest}
use Rattle.akl_model.specs.declared.label.Label.{Label}
use Rattle.akl_model.specs.declared.label.Receipt.{Receipt}
use Rattle.step_commit.specs.Cores.{CoreValue, IsRefused}
use Rattle.step_commit.specs.Receipts.{receipts_from}
use Rattle.scheduler.specs.Schedulers.{SchedulerValue}
use Rattle.seq_engine.proofs.Plans.{spent, follows}
use Rattle.seq_engine.proofs.steps.commit.Goals as goal

pub returns-in-Err-Spent : goal.returns-in-Err-Spent
returns-in-Err-Spent g c = (
  ap (λ (s : SchedulerValue). s.core) c.in-Err-Spent.ensures.unchanged,
  refl,
  spent c.args.scheduler.now.core c.args.plan c.requires (subst (IsRefused c.args.scheduler.now.core c.args.plan) c.in-Err-Spent.field-0-is c.in-Err-Spent.ensures.refused).1,
)

pub returns-in_ok-reserve-in-Ok : goal.returns-in_ok-reserve-in-Ok
returns-in_ok-reserve-in-Ok g c =
    let r : Receipt = c.in-Ok.committed.receipt in
    follows c.args.scheduler.now.core c.commit.new.self.core c.args.plan r c.args.receipts.now.items c.push_receipts.new.receipts.items c.requires c.in-Ok.ensures.committed.commits
    (c.push_receipts.ensures
    ∙ ap (λ (ls : List Label). c.reserve.new.self.items ++ receipts_from r.at r.seen ls) (take_rest c.journal.result.now (r.at - 1) ∙ ap (drop (r.at - 1)) (c.journal.ensures ∙ ap (λ (k : CoreValue). k.journal) c.core.ensures.core))
    ∙ ap (λ (rs : List Receipt). rs ++ receipts_from r.at r.seen (drop (r.at - 1) c.commit.new.self.core.journal)) c.reserve.ensures.items)
