use Rattle.std.proofs.Common.{sym, ap, ◌∙◌}
use Rattle.scheduler.proofs.Oldest.{oldest_from, oldest_of, at_other}
use Rattle.scheduler.proofs.splits.Splits.oldest_in.Goals as goal

pub returns-then-ne : goal.returns-then-ne
returns-then-ne c =
    oldest_of c.args.table.now c.args.name c.self.inside.kept c.range-split-items.ensures.ordered c.args.self.now c.self.view_is c.loop-split.oldest
    (sym (at_other c.args.table.now c.args.name c.loop-split.oldest c.in-Some.split.now c.next.new.self (sym c.ne.ensures ∙ c.if-ne.true))
    ∙ sym (ap (oldest_from c.args.table.now c.args.name c.loop-split.oldest) c.in-Some.ensures.steps) ∙ c.loop-split.invariant)

pub returns : goal.returns
returns c =
    oldest_of c.args.table.now c.args.name c.self.inside.kept c.range-split-items.ensures.ordered c.args.self.now c.self.view_is c.loop-split.oldest
    (sym (ap (oldest_from c.args.table.now c.args.name c.loop-split.oldest) c.in-None.ensures.steps.0) ∙ c.loop-split.invariant)
