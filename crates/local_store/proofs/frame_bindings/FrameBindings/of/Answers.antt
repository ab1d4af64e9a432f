use Rattle.std.proofs.Common.{ap, ◌∙◌}
use Rattle.local_store.specs.Kept.{put_all}
use Rattle.local_store.proofs.Increasing.{put-increase}
use Rattle.local_store.proofs.frame_bindings.FrameBindings.of.Goals as goal
use Rattle.local_store.proofs.frame_bindings.FrameBindings.of.Goals.{then-increase+in_ok-push_all, else-increase+in_ok-put_all}

pub returns-clause-bindings : goal.returns-clause-bindings
returns-clause-bindings c = elim c.if-increase.branch [
  | then-increase+in_ok-push_all w ↦ ap (λ v. v.items) w.bindings-is ∙ (rw c.in_ok-bindings.ensures.items at w.in_ok-push_all.ensures) ∙ put-increase c.args.added.now (c.increase.ensures w.if-increase.true)
  | else-increase+in_ok-put_all w ↦ ap (λ v. v.items) w.bindings-is ∙ w.in_ok-put_all.ensures ∙ ap (λ l. put_all l c.args.added.now) c.in_ok-bindings.ensures.items
]
