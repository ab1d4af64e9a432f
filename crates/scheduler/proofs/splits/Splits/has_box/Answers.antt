use Rattle.std.proofs.Common.{sym, ap, subst, ◌∙◌}
use Rattle.std.specs.BTreeSet.{IsKeyRangeOf}
use Rattle.std.specs.declared.ops.Bound.TheVariants.{Included, Unbounded}
use Rattle.scheduler.specs.declared.splits.Split.{Split}
use Rattle.scheduler.specs.contracts.splits.SplitOrd.TheImpl as in_order
use Rattle.scheduler.specs.Splits.{has_kept}
use Rattle.scheduler.proofs.KeptSplits.{none_from, first_from}
use Rattle.scheduler.proofs.splits.Splits.has_box.Goals as goal

pub returns-in-Some : goal.returns-in-Some
returns-in-Some c =
    c.eq.ensures
    ∙ first_from c.self.inside.kept c.args.name c.range.result
    (subst (λ (s : Split). IsKeyRangeOf in_order.cmp-value.it (Included s) Unbounded c.self.inside.kept c.range.result) c.first_of.ensures (c.range.ensures.in_range tt))
    c.in-Some.split.now c.next.new.self c.in-Some.ensures.steps
    ∙ ap (has_kept c.args.name) c.self.view_is

pub returns-in-None : goal.returns-in-None
returns-in-None c =
    sym (none_from c.self.inside.kept c.args.name c.range.result
    (subst (λ (s : Split). IsKeyRangeOf in_order.cmp-value.it (Included s) Unbounded c.self.inside.kept c.range.result) c.first_of.ensures (c.range.ensures.in_range tt))
    c.in-None.ensures.steps.0)
    ∙ ap (has_kept c.args.name) c.self.view_is
