use Rattle.std.proofs.Common.{refl, sym, subst, ◌∙◌}
use Rattle.std.proofs.lemmas.List.{take_all}
use Rattle.local_store.specs.Chained.{BindNone}
use Rattle.local_store.proofs.Steps.{found_in-next, other-frame-in}
use Rattle.local_store.proofs.listed.binds_none.Goals as goal

pub loop-binding-init : goal.loop-binding-init
loop-binding-init c = λ x e. refl

pub loop-binding-preserved : goal.loop-binding-preserved
loop-binding-preserved c = λ x e. found_in-next c.args.bindings.now c.loop-binding.binding-index _ x c.loop-binding-test.true (c.loop-binding.invariant x e) ∙ other-frame-in _ x c.args.frame e (sym c.eq.ensures ∙ c.if-eq.false)

pub returns : goal.returns
returns c = λ q. subst (λ bs. BindNone bs c.args.frame) (take_all c.loop-binding.binding-index c.args.bindings.now c.loop-binding-test.false) c.loop-binding.invariant
