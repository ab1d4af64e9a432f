use Rattle.std.proofs.Common.{◌≡◌, ◌+◌, ◌<◌, List, ◌∷◌, ◌++◌, length, sym, ap, subst, ◌∙◌}
use Rattle.akl_model.specs.declared.label.Label.{Label}
use Rattle.box_tree.specs.Applied.{Applied}
use Rattle.box_tree.specs.Plans.{IsRight}
use Rattle.step_commit.specs.Cores.{CoreValue, IsCore, AllWithin, Commits, solved_in}
use Rattle.step_commit.proofs.Made.{may_apply, core_on, commits, seen_all, may_apply_as, applied_as}
use Rattle.step_commit.proofs.state.Core.append.Goals as goal

pub apply-requires : goal.apply-requires
apply-requires c =
    let core : IsCore c.args.self.now = subst IsCore c.self.view_is c.self.invariant in
    let plan : IsRight c.args.plan = subst IsRight c.plan.view_is c.plan.invariant in
    let within : AllWithin c.args.self.now.table c.args.plan.reads (length c.args.plan.journal) = seen_all c.args.self.now core c.args.plan plan c.requires.may c.requires.fresh in
    may_apply_as c.args.self.now.table c.self.inside.table c.args.plan.label c.label-label.result c.args.plan.step c.into_parts-step.result.0 (ap (λ (k : CoreValue). k.table) (sym c.self.view_is)) (sym c.label-label.ensures)
    (sym c.into_parts-step.ensures.step) (may_apply c.args.self.now core c.args.plan plan c.requires.may within)

pub invariant_of-self-in_default : goal.invariant_of-self-in_default
invariant_of-self-in_default c =
    let core : IsCore c.args.self.now = subst IsCore c.self.view_is c.self.invariant in
    let plan : IsRight c.args.plan = subst IsRight c.plan.view_is c.plan.invariant in
    let within : AllWithin c.args.self.now.table c.args.plan.reads (length c.args.plan.journal) = seen_all c.args.self.now core c.args.plan plan c.requires.may c.requires.fresh in
    let less : length c.args.plan.more + length c.args.self.now.journal < c.args.self.now.budget = c.requires.fresh.unspent in
    let others : length c.more.result.now ≡ length c.args.plan.more = ap length c.more.ensures in
    let applied : Applied c.args.self.now.table c.args.plan.label (length c.args.plan.more) (solved_in c.args.self.now c.args.plan) c.args.plan.names c.args.plan.step c.args.plan.binds c.apply.new.self =
    applied_as c.self.inside.table c.args.self.now.table c.label-label.result c.args.plan.label (length c.more.result.now) (length c.args.plan.more) c.solved_at-at.result (solved_in c.args.self.now c.args.plan) c.names-names.result c.args.plan.names c.into_parts-step.result.0 c.args.plan.step c.as_slice-binds.result.now c.args.plan.binds c.apply.new.self
    (ap (λ (k : CoreValue). k.table) c.self.view_is) c.label-label.ensures others c.solved_at-at.ensures c.names-names.ensures c.into_parts-step.ensures.step (c.as_slice-binds.ensures.value ∙ c.into_parts-step.ensures.binds) c.in_default.ensures.applied in
    let longer : c.push_labels.new.journal.items ≡ c.args.self.now.journal ++ c.args.plan.label ∷ c.args.plan.more =
    c.in_ok-push_labels.ensures.pushed ∙ ap (λ (k : CoreValue). k.journal ++ c.label-label.result ∷ c.more-2.result.now) c.self.view_is ∙ ap (λ (l : Label). c.args.self.now.journal ++ l ∷ c.more-2.result.now) c.label-label.ensures
    ∙ ap (λ (ls : List Label). c.args.self.now.journal ++ c.args.plan.label ∷ ls) c.more-2.ensures in
    subst (λ (k : CoreValue). IsCore (record { table = c.apply.new.self; journal = c.push_labels.new.journal.items; workers = k.workers; budget = k.budget })) (sym c.self.view_is)
    (core_on c.args.self.now core c.args.plan plan c.requires.may within c.apply.new.self applied c.push_labels.new.journal.items longer less)

pub returns-clause-committed : goal.returns-clause-committed
returns-clause-committed c =
    let core : IsCore c.args.self.now = subst IsCore c.self.view_is c.self.invariant in
    let plan : IsRight c.args.plan = subst IsRight c.plan.view_is c.plan.invariant in
    let within : AllWithin c.args.self.now.table c.args.plan.reads (length c.args.plan.journal) = seen_all c.args.self.now core c.args.plan plan c.requires.may c.requires.fresh in
    let long : c.len-before.result ≡ length c.self.inside.journal.items = c.len-before.ensures ∙ c.self.inside.journal.ok.0 in
    let same : length c.self.inside.journal.items ≡ length c.args.self.now.journal = ap (λ (k : CoreValue). length k.journal) c.self.view_is in
    let less : length c.args.plan.more + length c.args.self.now.journal < c.args.self.now.budget = c.requires.fresh.unspent in
    let number : c.seen-seen.result ≡ length c.args.plan.journal = c.seen-seen.ensures in
    let others : length c.more.result.now ≡ length c.args.plan.more = ap length c.more.ensures in
    let applied : Applied c.args.self.now.table c.args.plan.label (length c.args.plan.more) (solved_in c.args.self.now c.args.plan) c.args.plan.names c.args.plan.step c.args.plan.binds c.apply.new.self =
    applied_as c.self.inside.table c.args.self.now.table c.label-label.result c.args.plan.label (length c.more.result.now) (length c.args.plan.more) c.solved_at-at.result (solved_in c.args.self.now c.args.plan) c.names-names.result c.args.plan.names c.into_parts-step.result.0 c.args.plan.step c.as_slice-binds.result.now c.args.plan.binds c.apply.new.self
    (ap (λ (k : CoreValue). k.table) c.self.view_is) c.label-label.ensures others c.solved_at-at.ensures c.names-names.ensures c.into_parts-step.ensures.step (c.as_slice-binds.ensures.value ∙ c.into_parts-step.ensures.binds) c.in_default.ensures.applied in
    let longer : c.push_labels.new.journal.items ≡ c.args.self.now.journal ++ c.args.plan.label ∷ c.args.plan.more =
    c.in_ok-push_labels.ensures.pushed ∙ ap (λ (k : CoreValue). k.journal ++ c.label-label.result ∷ c.more-2.result.now) c.self.view_is ∙ ap (λ (l : Label). c.args.self.now.journal ++ l ∷ c.more-2.result.now) c.label-label.ensures
    ∙ ap (λ (ls : List Label). c.args.self.now.journal ++ c.args.plan.label ∷ ls) c.more-2.ensures in
    let counted : record { at = c.len-before.result + 1; seen = c.seen-seen.result; label = c.label-label.result } ≡ record { at = length c.args.self.now.journal + 1; seen = length c.args.plan.journal; label = c.args.plan.label } =
    (λ i. record { at = (long ∙ same) i + 1; seen = number i; label = c.label-label.ensures i }) in
    subst (λ (k : CoreValue). Commits c.args.self.now c.args.plan (record { table = c.apply.new.self; journal = c.push_labels.new.journal.items; workers = k.workers; budget = k.budget })
    (record { at = c.len-before.result + 1; seen = c.seen-seen.result; label = c.label-label.result })) (sym c.self.view_is)
    (commits c.args.self.now core c.args.plan plan c.requires.may within c.apply.new.self applied c.push_labels.new.journal.items (record { at = c.len-before.result + 1; seen = c.seen-seen.result; label = c.label-label.result })
    longer counted less)
