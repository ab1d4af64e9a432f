use Rattle.std.proofs.Common.{◌≡◌, [], ◌∷◌, ◌++◌, sym, ◌∙◌, subst, true}
use Rattle.std.specs.Prelude.{IfOk, IsTrue, ◌↔◌}
use Rattle.akl_terms.specs.Names.{same_name}
use Rattle.box_tree.specs.declared.view.Alternative.{Alternative}
use Rattle.guard_plan.specs.Guards.{IsQuietInside}
use Rattle.guard_plan.proofs.Tested.{has_named}
use Rattle.guard_plan.proofs.guards.has_quiet.Goals as goal

pub returns-then-candidate : goal.returns-then-candidate
returns-then-candidate c =
    let q = rw c.in_ok-stores.ensures at c.is_quiet_over.ensures.holds in
    has_named c.args.templates.now.nodes c.args.path.now c.args.candidates.now c.loop-candidate.candidate-index c.candidate-item.result c.loop-candidate-test.true c.args.name
    (subst (λ (a : Alternative). same_name a.name c.args.name ≡ true) c.candidate-item.is (sym c.eq.ensures ∙ c.if-eq.true))
    (subst (λ (a : Alternative). a.solved ≡ true) c.candidate-item.is c.if-candidate.true)
    c.is_quiet_over.result
    (subst (λ (a : Alternative). IfOk c.is_quiet_over.result (λ holds. IsTrue holds ↔ IsQuietInside c.args.templates.now.nodes (c.args.path.now ++ a.store ∷ []))) c.candidate-item.is q)
