use Rattle.std.proofs.Common.{◌∙◌, ap}
use Rattle.local_store.specs.Stored.{Stored, with_bindings}
use Rattle.guard_plan.proofs.Listed.{bindings_next}
use Rattle.guard_plan.proofs.joining.bindings_of.Goals as goal

pub loop-alternative-preserved : goal.loop-alternative-preserved
loop-alternative-preserved c = bindings_next c.loop-alternative.store c.add_all.new.self c.args.alternatives.now c.loop-alternative.alternative-index c.alternative-item.result c.loop-alternative-test.true c.alternative-item.is
    (c.in_ok-add_all.ensures ∙ ap (with_bindings c.loop-alternative.store) (c.as_slice.ensures ∙ c.in_ok-bindings.ensures ∙ ap (λ (s : Stored). s.bindings) c.get.ensures)) ∙ c.loop-alternative.invariant
