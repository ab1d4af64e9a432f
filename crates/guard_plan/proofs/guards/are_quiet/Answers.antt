use Rattle.std.proofs.Common.{◌≡◌, [], ◌∷◌, ◌++◌, sym, ◌∙◌, subst, true}
use Rattle.std.proofs.lemmas.Bool.{false≢true}
use Rattle.box_tree.specs.declared.view.Alternative.{Alternative}
use Rattle.guard_plan.specs.Guards.{IsQuietInside, IsQuietOver}
use Rattle.guard_plan.specs.Noisy.{AddsNoise}
use Rattle.guard_plan.proofs.Noises.{tested_next}
use Rattle.guard_plan.proofs.Tested.{all_index, one_more, one_fails}
use Rattle.guard_plan.proofs.guards.are_quiet.Goals as goal
use Rattle.guard_plan.proofs.guards.are_quiet.Goals.{then-not-branch, else-not-branch}

pub loop-alternative-preserved : goal.loop-alternative-preserved
loop-alternative-preserved c =
    let q = rw c.loop-alternative.invariant.0 at c.in_ok-is_quiet_over.ensures.holds in
    let n = rw c.loop-alternative.invariant.0 at c.in_ok-is_quiet_over.ensures.noise in (
      c.in_ok-is_quiet_over.ensures.path ∙ c.loop-alternative.invariant.0,
      elim c.if-not-branch.branch [
        | then-not-branch w ↦ rw w.quiet-is (one_fails c.args.templates.now.nodes c.args.path.now (IsQuietOver c.args.templates.now.nodes c.args.path.now) c.args.alternatives.now c.loop-alternative.alternative-index c.alternative-item.result
            c.loop-alternative-test.true
            (subst (λ (a : Alternative). IsQuietInside c.args.templates.now.nodes (c.args.path.now ++ a.store ∷ []) → ⊥) c.alternative-item.is (λ h. false≢true (sym w.if-not-branch.true ∙ q.1 h))))
        | else-not-branch w ↦ rw w.quiet-is (one_more c.args.templates.now.nodes c.args.path.now (IsQuietOver c.args.templates.now.nodes c.args.path.now) c.args.alternatives.now c.loop-alternative.alternative-index c.alternative-item.result
            c.loop-alternative-test.true c.loop-alternative.quiet c.loop-alternative.invariant.1
            (subst (λ (a : Alternative). IsQuietInside c.args.templates.now.nodes (c.args.path.now ++ a.store ∷ [])) c.alternative-item.is (q.0 w.if-not-branch.false)))
      ],
      tested_next c.args.templates.now.nodes c.args.path.now c.args.alternatives.now c.loop-alternative.alternative-index c.alternative-item.result c.loop-alternative-test.true c.loop-alternative.noise.items c.loop-alternative.invariant.2
          (all_index c.args.templates.now.nodes c.args.path.now (λ (a : Alternative). a.solved ≡ true) c.args.alternatives.now c.loop-alternative.alternative-index c.alternative-item.result c.loop-alternative-test.true c.requires.solved)
          c.is_quiet_over.new.noise.items
          (subst (λ (a : Alternative). AddsNoise c.args.templates.now.nodes (c.args.path.now ++ a.store ∷ []) c.loop-alternative.noise.items c.is_quiet_over.new.noise.items) c.alternative-item.is n),
    )
