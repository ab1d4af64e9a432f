use Rattle.std.proofs.Common.{ap, ◌∙◌}
use Rattle.local_store.specs.Stored.{Stored, nothing, with_bindings}
use Rattle.local_store.specs.Parts.{with_part, told_over}
use Rattle.guard_plan.specs.Collecting.{bindings_of}
use Rattle.guard_plan.proofs.joining.inner_store.Goals as goal

pub returns : goal.returns
returns c = record {
  answer = told_over (with_bindings nothing (bindings_of c.args.alternatives.now)) c.in_ok-part.field-0;
  told = rw (c.in_ok-inner.ensures, c.in_ok-bindings_of.ensures) at c.in_ok-part.ensures;
  store = c.in_ok-join.ensures.joined ∙ ap (λ (s : Stored). with_part s c.in_ok-part.field-0.part) (c.in_ok-inner.ensures ∙ c.in_ok-bindings_of.ensures);
}
