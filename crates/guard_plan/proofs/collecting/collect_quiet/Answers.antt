use Rattle.std.proofs.Common.{◌≡◌, List, refl, ap, rules}
use Rattle.akl_model.specs.declared.label.Rule.{Rule}
use Rattle.akl_terms.specs.declared.name.Name.{Name}
use Rattle.akl_terms.specs.declared.program.Goal.{Goal}
use Rattle.local_store.specs.Parts.{told_over}
use Rattle.local_store.specs.Chained.{innermost}
use Rattle.table_laws.specs.Added.{added_of}
use Rattle.table_laws.specs.PartSteps.{joins_part}
use Rattle.box_tree.specs.declared.step.Step.{Step}
use Rattle.box_tree.specs.Edits.{named_atoms}
use Rattle.guard_plan.proofs.Collected.{collect_uncollected, collect_planned}
use Rattle.box_tree.specs.Plans.{IsRight}
use Rattle.guard_plan.specs.Collecting.{frames_of}
use Rattle.guard_plan.proofs.Joined.{gathered_known}
use Rattle.guard_plan.proofs.PlanOf.{may_at, plan_of}
use Rattle.guard_plan.proofs.Sites.{some_stores}
use Rattle.guard_plan.proofs.collecting.collect_quiet.Goals as goal

pub returns-in_default : goal.returns-in_default
returns-in_default c =
    let none = rw (c.in_default.is, c.alternatives-2.ensures.alternatives) at c.in_ok-equations.ensures in
    collect_uncollected c.args.view.now c.label_of-label.ensures.seen c.args.goal c.args.list c.requires.place c.requires.sight none

pub joined_part-requires-clause-some : goal.joined_part-requires-clause-some
joined_part-requires-clause-some c = rw c.chain.ensures.stores (some_stores c.args.view.now c.label_of-label.ensures.seen)

pub new-requires-2-clause-right : goal.new-requires-2-clause-right
new-requires-2-clause-right c =
    let list = rw (c.in-Some.is, c.alternatives-2.ensures.alternatives, c.worker.ensures, c.next-next.ensures, c.requires.program) at c.in_ok-equations.ensures in
    let joined = rw (c.chain.ensures.nodes, c.chain.ensures.stores, c.chain.ensures.known, c.alternatives-3.ensures.alternatives, c.as_slice.ensures.value, c.worker.ensures, c.next-next.ensures, c.requires.program) at c.in_ok-part.ensures.joined in
    let members = rw (c.chain-2.ensures.nodes, c.chain-2.ensures.stores, c.as_slice-2.ensures, c.requires.program) at c.in_ok-binds.ensures.members in
    let adds = rw (c.alternatives-3.ensures.alternatives, c.worker.ensures, c.next-next.ensures) at c.in_ok-part.ensures.frames in
    let read = rw c.as_slice-3.ensures.value at c.in_ok-reads.ensures in
    rw (c.label_of-label.ensures.label, c.alternatives.ensures.alternatives)
    (collect_planned c.args.view.now c.label_of-label.ensures.seen c.args.goal c.args.list c.requires.place c.requires.sight c.requires.solved (rw c.requires.program at c.requires.quiet) c.requires.few
    c.in-Some.equations.items list (told_over (innermost c.args.view.now.stores) c.in_ok-part.field-0) joined c.in_ok-part.field-0.part refl adds
    c.in_ok-binds.binds.items members c.in_ok-reads.reads.items read (Step.Join c.in_ok-part.field-0.part c.in_ok-part.field-0.solved c.new.result 0 0)
    (ap (λ (l : List (Name × Goal)). joins_part (added_of c.in_ok-part.field-0.part) c.in_ok-part.field-0.solved (named_atoms c.args.view.now.table.program.templates.nodes l)) c.new.ensures.items))

not_split : Rule.Collect ≡ Rule.Split → ⊥
not_split e = cc

pub returns : goal.returns
returns c =
    let v = c.args.view.now in
    let right : IsRight c.in_ok-plan.plan = search rules in
    let joined = rw (c.chain.ensures.nodes, c.chain.ensures.stores, c.chain.ensures.known, c.alternatives-3.ensures.alternatives, c.as_slice.ensures.value, c.worker.ensures, c.next-next.ensures, c.requires.program) at c.in_ok-part.ensures.joined in
    let known = gathered_known v.table.program.templates.nodes v.stores v.known v.alternatives (frames_of v.worker v.next v.alternatives) c.in-Some.equations.items (told_over (innermost v.stores) c.in_ok-part.field-0) joined c.label_of-label.ensures.seen.known.within in
    let read = rw c.as_slice-3.ensures.value at c.in_ok-reads.ensures in
    let may = may_at v c.args.goal c.requires.place c.in_ok-binds.binds.items c.in_ok-reads.reads.items read.only in
    plan_of v c.in_ok-plan.plan _ _ _ _ _ right may c.in_ok-plan.ensures Rule.Collect _ c.label_of-label.ensures.label
    known not_split
