use Rattle.std.proofs.Common.{sym, ◌∙◌, ap}
use Rattle.local_store.specs.Stored.{Stored}
use Rattle.rule_plan.proofs.Clashing.{clash_at}
use Rattle.rule_plan.proofs.clashes.clash_among.Goals as goal

pub returns-in-len2-up : goal.returns-in-len2-up
returns-in-len2-up c = λ h. clash_at c.args.chain.now.nodes c.args.chain.now.stores c.as_slice.result.now _ c.look-left.result c.look-right.result c.in-len2-up.len_at_least
    (sym (c.as_slice.ensures ∙ c.in_ok-bindings.ensures ∙ ap (λ (s : Stored). s.bindings) c.requires)) c.if-ne.ensures
    (rw c.templates-templates.ensures.nodes at c.look-left.ensures.seen) (rw c.templates-templates.ensures.nodes at c.look-right.ensures.seen) (sym c.differ.ensures ∙ h)
