use Rattle.std.proofs.Common.{◌≡◌, [], ◌∷◌, ◌++◌, sym, ◌∙◌, subst, false, true}
use Rattle.std.proofs.lemmas.Bool.{false≢true}
use Rattle.box_tree.specs.declared.view.Alternative.{Alternative}
use Rattle.guard_plan.specs.Guards.{HasQuiet, IsQuietInside}
use Rattle.guard_plan.specs.Noisy.{AddsNoise}
use Rattle.guard_plan.proofs.Noises.{noisy_next, unsolved_noisy}
use Rattle.guard_plan.proofs.Tested.{has_here}
use Rattle.guard_plan.proofs.guards.first_quiet.Goals as goal
use Rattle.guard_plan.proofs.guards.first_quiet.Goals.{then-candidate+in_ok-is_quiet_over+else-branch, else-candidate}

pub returns-then-branch : goal.returns-then-branch
returns-then-branch c =
    let q = (rw c.loop-candidate.invariant.0 at c.in_ok-is_quiet_over.ensures.holds).0 c.if-branch.true in
    subst (λ (a : Alternative). HasQuiet c.args.templates.now.nodes c.args.path.now c.args.candidates.now a.name) (sym c.candidate-item.is)
    (has_here c.args.templates.now.nodes c.args.path.now c.args.candidates.now c.loop-candidate.candidate-index c.candidate-item.result c.loop-candidate-test.true
    (subst (λ (a : Alternative). a.solved ≡ true) c.candidate-item.is c.if-candidate.true)
    (subst (λ (a : Alternative). IsQuietInside c.args.templates.now.nodes (c.args.path.now ++ a.store ∷ [])) c.candidate-item.is q))

pub loop-candidate-preserved : goal.loop-candidate-preserved
loop-candidate-preserved c = elim c.if-candidate.branch [
  | then-candidate+in_ok-is_quiet_over+else-branch w ↦
      let q = rw c.loop-candidate.invariant.0 at w.in_ok-is_quiet_over.ensures.holds in
      let n = rw c.loop-candidate.invariant.0 at w.in_ok-is_quiet_over.ensures.noise in
      rw (w.stores-is, w.noise-is) (
        w.in_ok-is_quiet_over.ensures.path ∙ c.loop-candidate.invariant.0,
        noisy_next c.args.templates.now.nodes c.args.path.now c.args.candidates.now c.loop-candidate.candidate-index c.candidate-item.result c.loop-candidate-test.true c.loop-candidate.noise.items c.loop-candidate.invariant.1
            (subst (λ (a : Alternative). a.solved ≡ true) c.candidate-item.is w.if-candidate.true)
            (subst (λ (a : Alternative). IsQuietInside c.args.templates.now.nodes (c.args.path.now ++ a.store ∷ []) → ⊥) c.candidate-item.is (λ h. false≢true (sym w.if-branch.false ∙ q.1 h)))
            w.is_quiet_over.new.noise.items
            (subst (λ (a : Alternative). AddsNoise c.args.templates.now.nodes (c.args.path.now ++ a.store ∷ []) c.loop-candidate.noise.items w.is_quiet_over.new.noise.items) c.candidate-item.is n),
      )
  | else-candidate w ↦
      rw (w.stores-is, w.noise-is) (
        c.loop-candidate.invariant.0,
        unsolved_noisy c.args.templates.now.nodes c.args.path.now c.args.candidates.now c.loop-candidate.candidate-index c.candidate-item.result c.loop-candidate-test.true c.loop-candidate.noise.items c.loop-candidate.invariant.1
            (subst (λ (a : Alternative). a.solved ≡ false) c.candidate-item.is w.if-candidate.false),
      )
]
