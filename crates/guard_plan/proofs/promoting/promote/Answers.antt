use Rattle.std.proofs.Common.{◌≡◌, List, length, refl, sym, ◌∙◌, ap, arith, rules}
use Rattle.std.proofs.lemmas.Bool.{false≢true}
use Rattle.std.specs.Prelude.{◌^◌, ◌<◌}
use Rattle.akl_terms.specs.declared.name.Name.{Name}
use Rattle.akl_terms.specs.declared.program.Goal.{Goal}
use Rattle.akl_model.specs.declared.label.Rule.{Rule}
use Rattle.local_store.specs.Parts.{told_over}
use Rattle.local_store.specs.Chained.{innermost}
use Rattle.box_tree.specs.declared.step.Step.{Step}
use Rattle.box_tree.specs.Edits.{named_atoms}
use Rattle.table_laws.specs.Added.{added_of}
use Rattle.table_laws.specs.PartSteps.{joins_part}
use Rattle.table_laws.proofs.StoreChains.{innermost_push}
use Rattle.guard_plan.proofs.Chosen.{only_testable, only_deep, only_unsolved, only_many, only_unheld, only_planned}
use Rattle.guard_plan.proofs.Joined.{promoted_over, joined_known}
use Rattle.guard_plan.proofs.PlanOf.{may_at, plan_of}
use Rattle.guard_plan.proofs.Noises.{noise_unsolved, noise_of_promote}
use Rattle.guard_plan.proofs.promoting.promote.Goals as goal
use Rattle.guard_plan.proofs.promoting.promote.Goals.{then-not-branch-via-then-not-branch, then-not-branch-via-else-not-branch+then-names-gt-MOST}

pub returns-then-not-only : goal.returns-then-not-only
returns-then-not-only c = (
  only_unsolved c.args.view.now c.label_for-label.ensures.seen c.args.goal c.args.op c.requires.place c.requires.sight c.requires.guarded c.args.only.now c.requires.only c.if-not-only.true,
  noise_unsolved c.args.view.now c.args.op c.requires.guarded c.requires.sight c.args.noise.now.items c.args.only.now c.requires.only c.if-not-only.true c.requires.silent,
)

pub of_solved-chain-requires : goal.of_solved-chain-requires
of_solved-chain-requires c = rw (c.as_slice.ensures.value, c.in_ok-push.ensures.items, c.in_ok-stores.ensures, c.in_ok-share.ensures, c.stores.ensures, c.requires.program)
    (only_testable c.args.view.now c.label_for-label.ensures.seen c.args.goal c.args.op c.requires.place c.requires.sight c.requires.guarded c.args.only.now c.requires.only).known

pub guard_holds-requires : goal.guard_holds-requires
guard_holds-requires c = rw (c.of_solved-chain.ensures, c.as_slice.ensures.value, c.in_ok-push.ensures.items, c.in_ok-stores.ensures, c.in_ok-share.ensures, c.stores.ensures, c.requires.program)
    (only_testable c.args.view.now c.label_for-label.ensures.seen c.args.goal c.args.op c.requires.place c.requires.sight c.requires.guarded c.args.only.now c.requires.only).apart

pub returns-then-not-branch : goal.returns-then-not-branch
returns-then-not-branch c =
    let says = rw (c.of_solved-chain.ensures, c.as_slice.ensures.value, c.in_ok-push.ensures.items, c.in_ok-stores.ensures, c.in_ok-share.ensures, c.stores.ensures, c.requires.program) at c.in_ok-guard_holds.ensures.holds in
    let noise = rw (c.of_solved-chain.ensures, c.as_slice.ensures.value, c.in_ok-push.ensures.items, c.in_ok-stores.ensures, c.in_ok-share.ensures, c.stores.ensures, c.requires.program) at c.in_ok-guard_holds.ensures.noise in (
      elim c.then-not-branch.branch [
        | then-not-branch-via-then-not-branch w ↦ only_unheld c.args.view.now c.label_for-label.ensures.seen c.args.goal c.args.op c.requires.place c.requires.sight c.requires.guarded c.args.only.now c.requires.only
            (λ h. false≢true (sym w.if-not-branch.true ∙ says.1 h))
        | then-not-branch-via-else-not-branch+then-names-gt-MOST w ↦ only_many c.args.view.now c.label_for-label.ensures.seen c.args.goal c.args.op c.requires.place c.requires.sight c.requires.guarded c.args.only.now c.requires.only
            (omega (arith, w.if-names-gt-MOST.true, ap (λ (l : List Goal). length l) c.body.ensures))
      ],
      noise_of_promote c.args.view.now c.args.op c.requires.guarded c.requires.sight c.guard_holds.new.noise.items c.args.only.now c.requires.only c.if-not-only.false c.args.noise.now.items c.requires.silent noise,
    )

pub promoted-requires : goal.promoted-requires
promoted-requires c = rw (c.of_solved-chain.ensures, c.as_slice.ensures.value, c.in_ok-push.ensures.items, c.in_ok-stores.ensures, c.in_ok-share.ensures, c.stores.ensures)
    (only_deep c.args.view.now c.label_for-label.ensures.seen c.args.goal c.args.op c.requires.place c.requires.sight c.requires.guarded c.args.only.now c.requires.only)

pub new-requires-clause-right : goal.new-requires-clause-right
new-requires-clause-right c =
    let says = rw (c.of_solved-chain.ensures, c.as_slice.ensures.value, c.in_ok-push.ensures.items, c.in_ok-stores.ensures, c.in_ok-share.ensures, c.stores.ensures, c.requires.program) at c.in_ok-guard_holds.ensures.holds in
    let answer = rw (c.of_solved-chain.ensures, c.as_slice.ensures.value, c.in_ok-push.ensures.items, c.in_ok-stores.ensures, c.in_ok-share.ensures, c.stores.ensures, c.requires.program) at c.in_ok-part.ensures.promoted in
    let promotes = promoted_over c.args.view.now.table.program.templates.nodes c.args.view.now.stores c.args.only.now.store c.args.only.now.known c.in_ok-part.field-0 answer in
    let goals = rw (c.worker.ensures, c.next-next.ensures, c.body-2.ensures) at c.in_ok-goals.ensures in
    let members = rw (c.chain.ensures.nodes, c.chain.ensures.stores, c.as_slice-2.ensures, c.requires.program) at c.in_ok-binds.ensures.members in
    let few : length c.args.view.now.body < 2 ^ 32 = omega (arith, c.if-names-gt-MOST.false, ap (λ (l : List Goal). length l) c.body.ensures) in
    let adds = rw (c.of_solved-chain.ensures, c.as_slice.ensures.value, c.in_ok-push.ensures.items, c.in_ok-stores.ensures, c.in_ok-share.ensures, c.stores.ensures, innermost_push) at c.in_ok-part.ensures.frames in
    let read = rw c.as_slice-3.ensures.value at c.in_ok-reads.ensures in
    rw (c.label_for-label.ensures.label, c.body.ensures)
    (only_planned c.args.view.now c.label_for-label.ensures.seen c.args.goal c.args.op c.requires.place c.requires.sight c.requires.guarded c.args.only.now c.requires.only
    c.if-not-only.false (says.0 c.if-not-branch.false) few (told_over (innermost c.args.view.now.stores) c.in_ok-part.field-0) c.args.only.now.known promotes c.in_ok-part.field-0.part refl adds
    c.in_ok-binds.binds.items members c.in_ok-reads.reads.items read (Step.Join c.in_ok-part.field-0.part c.in_ok-part.field-0.solved c.in_ok-goals.goals 0 0)
    (ap (λ (l : List (Name × Goal)). joins_part (added_of c.in_ok-part.field-0.part) c.in_ok-part.field-0.solved (named_atoms c.args.view.now.table.program.templates.nodes l)) goals))

not_split : Rule.Promote ≡ Rule.Split → ⊥
not_split e = cc

pub returns : goal.returns
returns c =
    let answer = rw (c.of_solved-chain.ensures, c.as_slice.ensures.value, c.in_ok-push.ensures.items, c.in_ok-stores.ensures, c.in_ok-share.ensures, c.stores.ensures, c.requires.program) at c.in_ok-part.ensures.promoted in
    let promotes = promoted_over c.args.view.now.table.program.templates.nodes c.args.view.now.stores c.args.only.now.store c.args.only.now.known c.in_ok-part.field-0 answer in
    let known = joined_known c.args.view.now.table.program.templates.nodes c.args.view.now.stores c.args.only.now.store c.args.only.now.known (told_over (innermost c.args.view.now.stores) c.in_ok-part.field-0) promotes in
    let read = rw c.as_slice-3.ensures.value at c.in_ok-reads.ensures in
    let may = may_at c.args.view.now c.args.goal c.requires.place c.in_ok-binds.binds.items c.in_ok-reads.reads.items read.only in
    plan_of c.args.view.now c.in_ok-plan.plan _ _ _ _ _ (search rules) may c.in_ok-plan.ensures Rule.Promote _ c.label_for-label.ensures.label (rw c.requires.only (known, tt)) not_split
