use Rattle.std.proofs.Common.{List, length, sym, ◌∙◌, ap, arith}
use Rattle.std.proofs.lemmas.Bool.{false≢true}
use Rattle.box_tree.specs.declared.view.Alternative.{Alternative}
use Rattle.guard_plan.specs.Guards.{AreAllSolved}
use Rattle.guard_plan.proofs.Collected.{collect_testable, collect_unsolved, collect_noisy, collect_many}
use Rattle.guard_plan.proofs.Noises.{noise_of_collect}
use Rattle.guard_plan.proofs.collecting.collect.Goals as goal
use Rattle.guard_plan.proofs.collecting.collect.Goals.{then-not-quiet-via-then-not-quiet, then-not-quiet-via-else-not-quiet+then-alternatives-gt-MOST}

pub returns-then-not-are_solved : goal.returns-then-not-are_solved
returns-then-not-are_solved c =
    let says = rw c.alternatives-alternatives.ensures.alternatives at c.are_solved.ensures in
    let none : AreAllSolved c.args.view.now.alternatives → ⊥ = λ h. false≢true (sym c.if-not-are_solved.true ∙ says.1 h) in (
      collect_unsolved c.args.view.now c.alternatives-alternatives.ensures.seen c.args.goal c.args.list c.requires.place c.requires.sight none,
      noise_of_collect c.args.view.now c.args.list c.requires.sight c.args.noise.now.items (λ h. absurd (none h)),
    )

pub are_quiet-requires-clause-testable : goal.are_quiet-requires-clause-testable
are_quiet-requires-clause-testable c = rw (c.stores.ensures, c.alternatives-alternatives.ensures.alternatives, c.requires.program)
    (collect_testable c.args.view.now c.alternatives-alternatives.ensures.seen c.args.goal c.args.list c.requires.place c.requires.sight)

pub returns-then-not-quiet : goal.returns-then-not-quiet
returns-then-not-quiet c =
    let quiet = rw (c.stores.ensures, c.alternatives-alternatives.ensures.alternatives, c.requires.program) at c.in_ok-quiet.ensures.quiet in
    let noise = rw (c.stores.ensures, c.alternatives-alternatives.ensures.alternatives, c.requires.program) at c.in_ok-quiet.ensures.noise in (
      elim c.then-not-quiet.branch [
        | then-not-quiet-via-then-not-quiet w ↦ collect_noisy c.args.view.now c.alternatives-alternatives.ensures.seen c.args.goal c.args.list c.requires.place c.requires.sight
            (λ h. false≢true (sym w.if-not-quiet.true ∙ quiet.1 h))
        | then-not-quiet-via-else-not-quiet+then-alternatives-gt-MOST w ↦ collect_many c.args.view.now c.alternatives-alternatives.ensures.seen c.args.goal c.args.list c.requires.place c.requires.sight
            (omega (arith, w.if-alternatives-gt-MOST.true, ap (λ (l : List Alternative). length l) c.alternatives-alternatives.ensures.alternatives))
      ],
      noise_of_collect c.args.view.now c.args.list c.requires.sight c.are_quiet.new.noise.items (λ h. noise),
    )
