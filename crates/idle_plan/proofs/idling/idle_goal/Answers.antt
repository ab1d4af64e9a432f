use Rattle.std.proofs.Common.{ℕ, subst}
use Rattle.akl_terms.specs.declared.program.Program.{Program}
use Rattle.idle_plan.specs.Waits.{AreToldAround, AreOwnWaits}
use Rattle.idle_plan.proofs.Joined.{goal_idle, as_many}
use Rattle.idle_plan.proofs.idling.idle_goal.Goals as goal

pub new-requires : goal.new-requires
new-requires c =
    let seen = c.in_ok-reads.ensures.seen in
    let around = rw (c.requires.program, c.stores.ensures) at c.in_ok-on.ensures in
    let own : AreOwnWaits c.args.program.now c.args.view.now c.args.view.now.sight c.in_ok-own.own.items = c.in_ok-own.ensures in
    let items = rw (c.as_slice-2.ensures.value, c.in_ok-extend_from_slice.ensures.items, c.as_slice.ensures.value) at c.in_ok-reads.ensures.items in
    rw (c.in_ok-extend_from_slice.ensures.items, c.as_slice.ensures.value)
    (goal_idle c.args.view.now seen c.args.goal c.requires.place c.requires.unready c.in_ok-on.on.items c.in_ok-own.own.items
    (subst (λ (k : ℕ). AreToldAround c.args.view.now.table.program.templates.nodes c.args.view.now.stores k c.in_ok-on.on.items) (as_many c.args.view.now seen) around)
    (subst (λ (p : Program). AreOwnWaits p c.args.view.now c.args.view.now.sight c.in_ok-own.own.items) c.requires.program own) c.in_ok-reads.reads.items items)
