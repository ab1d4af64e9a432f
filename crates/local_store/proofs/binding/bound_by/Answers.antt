use Rattle.std.proofs.Common.{List, ◌∷◌, [], ◌++◌, ap, ◌∙◌}
use Rattle.akl_terms.specs.declared.name.Var.{Var}
use Rattle.local_store.proofs.Listing.{lists-free, lists-headed}
use Rattle.local_store.proofs.binding.bound_by.Goals as goal
use Rattle.local_store.proofs.binding.bound_by.Goals.{in-Some+in_ok-push-2, in_default}

pub loop-binding-preserved : goal.loop-binding-preserved
loop-binding-preserved g c = elim c.match-end_variable.branch [
  | in-Some+in_ok-push-2 w ↦ lists-free c.args.templates.now.nodes (g.W.Lookup.bindings c.args.whole.now) c.args.bindings.now c.loop-binding.binding-index c.requires.solved c.requires.found c.loop-binding-test.true
      c.loop-binding.list.items _ _ w.in-Some.end c.loop-binding.invariant w.in-Some.ensures
      (ap (λ v. v.items) w.list-is ∙ w.in_ok-push-2.ensures.ok ∙ ap (λ (l : List Var). l ++ w.in-Some.end ∷ []) c.in_ok-push.ensures.ok)
  | in_default w ↦ lists-headed c.args.templates.now.nodes (g.W.Lookup.bindings c.args.whole.now) c.args.bindings.now c.loop-binding.binding-index c.requires.solved c.requires.found c.loop-binding-test.true
      c.loop-binding.list.items _ _ w.in_default.ensures.0 c.loop-binding.invariant w.in_default.ensures.1
      (ap (λ v. v.items) w.list-is ∙ c.in_ok-push.ensures.ok)
]
