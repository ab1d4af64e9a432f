use Rattle.std.proofs.Common.{◌≡◌, ℕ, suc, ◌+◌, ◌-◌, ◌≤◌, sym, subst, ap, ◌∙◌, arith, List, length, drop, ◌++◌, ◌∷◌, []}
use Rattle.std.specs.Prelude.{vec_len, vec_capacity}
use Rattle.akl_model.specs.declared.label.Label.{Label}
use Rattle.akl_model.specs.declared.label.Receipt.{Receipt}
use Rattle.step_commit.specs.Cores.{CoreValue, IsCore}
use Rattle.step_commit.specs.Receipts.{receipts_from}
use Rattle.place_steps.specs.declared.next.Next.{Next}
use Rattle.par_workers.specs.declared.made.Made.{Made}
use Rattle.par_workers.specs.Shared.{SharedValue, IsShared}
use Rattle.par_workers.specs.Turns.{IsFoundBefore, HasConcluded}
use Rattle.par_workers.proofs.Cores.{may_commit, labels_behind, number_within, plan_by, shared_more, concluded_more, concluded_none}
use Rattle.par_workers.proofs.shared.SharedRun.commit.Goals as goal

pub returns-then-is_err : goal.returns-then-is_err
returns-then-is_err g c =
    let s = c.args.self.now in
    let rs = c.args.receipts.now.items in
    subst (λ (d : SharedValue). HasConcluded c.args.worker s rs d rs)
    (sym (c.stop.ensures ∙ ap (λ (ms : List Made). record { begun = c.self.inside.begun.value; past = ms }) c.reserve.ensures.items ∙ c.self.view_is)) (concluded_none c.args.worker s rs)

pub commit-requires : goal.commit-requires
commit-requires g c = may_commit c.args.self.now c.self.inside.scheduler.core c.args.worker c.args.plan
    (subst (λ (s : SharedValue). IsShared s c.self.inside.scheduler.core) c.self.view_is c.self.invariant.shared) c.requires.plan

pub of-made-requires : goal.of-made-requires
of-made-requires g c = plan_by c.args.plan c.of-planned.result.value c.of-planned.ensures c.requires.plan.found.next.right

pub push_labels-requires-clause-number : goal.push_labels-requires-clause-number
push_labels-requires-clause-number g c =
    let d = c.commit.new.self.core in
    subst (λ (e : CoreValue). (1 ≤ c.in-Ok.field-0.receipt.at) × (c.in-Ok.field-0.receipt.at ≤ length e.journal)) (sym c.core-core.ensures.core)
    (number_within c.self.inside.scheduler.core d c.args.plan c.in-Ok.field-0.receipt c.in-Ok.ensures.committed.commits)

pub push_labels-requires-clause-room : goal.push_labels-requires-clause-room
push_labels-requires-clause-room g c =
    let d = c.commit.new.self.core in
    let r = c.in-Ok.field-0.receipt in
    let behind = labels_behind c.self.inside.scheduler.core d c.args.plan r c.in-Ok.ensures.committed.commits in
    let count : length (drop (r.at - 1) c.core-core.result.now.journal) ≡ length c.args.plan.more + 1 =
    ap (λ (e : CoreValue). length (drop (r.at - 1) e.journal)) c.core-core.ensures.core ∙ ap (λ (ls : List Label). length ls) behind ∙ (let e : suc (length c.args.plan.more) ≡ length c.args.plan.more + 1 = omega arith in e) in
    subst (λ (n : ℕ). vec_len c.args.receipts.now + n ≤ vec_capacity c.args.receipts.now) (sym count) c.requires.room

pub invariant_of-self-in-Ok : goal.invariant_of-self-in-Ok
invariant_of-self-in-Ok g c =
    let v = c.self.inside in
    let s : SharedValue = record { begun = v.begun.value; past = v.past.items } in
    let d = c.commit.new.self.core in
    let found = subst (λ (x : SharedValue). IsFoundBefore x c.args.worker (Next.Plan c.args.plan)) (sym c.self.view_is) c.requires.plan in
    let most = subst (λ (x : SharedValue). c.args.worker ≤ x.begun.workers) (sym c.self.view_is) c.requires.worker.1 in
    let before : IsCore v.scheduler.core = c.core.ensures.scheduler.core in
    let core = subst IsCore c.core-core.ensures.core c.table.ensures.core in
    let table = c.of-made.ensures.table ∙ c.table.ensures.table ∙ ap (λ (e : CoreValue). e.table) c.core-core.ensures.core in
    record {
      shared = subst (λ (ms : List Made). IsShared (record { begun = v.begun.value; past = ms }) d)
          (sym (c.push_reserved.ensures.items ∙ ap (λ (ms : List Made). ms ++ c.of-made.result ∷ []) c.reserve.ensures.items))
          (shared_more s v.scheduler.core d c.args.worker c.args.plan c.in-Ok.field-0.receipt c.of-made.result c.self.invariant.shared found c.requires.worker.0 most before core c.in-Ok.ensures.committed.commits (c.of-made.ensures.plan ∙ c.of-planned.ensures) table);
      held = c.take_opened.ensures v.scheduler.openings c.in-Ok.ensures.committed.keeps c.self.invariant.held;
    }

pub returns-in-Ok : goal.returns-in-Ok
returns-in-Ok g c =
    let v = c.self.inside in
    let s : SharedValue = record { begun = v.begun.value; past = v.past.items } in
    let rs = c.args.receipts.now.items in
    let d = c.commit.new.self.core in
    let r = c.in-Ok.field-0.receipt in
    let m = c.of-made.result in
    let commits = c.in-Ok.ensures.committed.commits in
    let found = subst (λ (x : SharedValue). IsFoundBefore x c.args.worker (Next.Plan c.args.plan)) (sym c.self.view_is) c.requires.plan in
    let done = concluded_more s v.scheduler.core d c.args.worker c.args.plan r m rs c.self.invariant.shared found commits (c.of-made.ensures.plan ∙ c.of-planned.ensures) in
    let past = c.push_reserved.ensures.items ∙ ap (λ (ms : List Made). ms ++ m ∷ []) c.reserve.ensures.items in
    let receipts = c.push_labels.ensures
    ∙ ap (λ (e : CoreValue). rs ++ receipts_from r.at r.seen (drop (r.at - 1) e.journal)) c.core-core.ensures.core
    ∙ ap (λ (ls : List Label). rs ++ receipts_from r.at r.seen ls) (labels_behind v.scheduler.core d c.args.plan r commits) in
    subst (λ (x : SharedValue). HasConcluded c.args.worker x rs (record { begun = v.begun.value; past = c.push_reserved.new.self.items }) c.push_labels.new.receipts.items) c.self.view_is
    (subst (λ (ms : List Made). HasConcluded c.args.worker s rs (record { begun = v.begun.value; past = ms }) c.push_labels.new.receipts.items) (sym past)
    (subst (λ (ss : List Receipt). HasConcluded c.args.worker s rs (record { begun = s.begun; past = s.past ++ m ∷ [] }) ss) (sym receipts) done))

pub returns-in-Err-Short : goal.returns-in-Err-Short
returns-in-Err-Short g c =
    let s = c.args.self.now in
    let rs = c.args.receipts.now.items in
    subst (λ (d : SharedValue). HasConcluded c.args.worker s rs d rs)
    (sym (c.take_refused.ensures ∙ ap (λ (ms : List Made). record { begun = c.self.inside.begun.value; past = ms }) c.reserve.ensures.items ∙ c.self.view_is)) (concluded_none c.args.worker s rs)

pub returns : goal.returns
returns g c =
    let s = c.args.self.now in
    let rs = c.args.receipts.now.items in
    subst (λ (d : SharedValue). HasConcluded c.args.worker s rs d rs)
    (sym (c.stop-in-Err-Spent.ensures ∙ ap (λ (ms : List Made). record { begun = c.self.inside.begun.value; past = ms }) c.reserve.ensures.items ∙ c.self.view_is)) (concluded_none c.args.worker s rs)
