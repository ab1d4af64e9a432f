use Rattle.std.proofs.Common.{sym, ap, ◌∙◌}
use Rattle.scheduler.specs.Opening.{closed_back}
use Rattle.scheduler.proofs.OpeningLists.{back_end}
use Rattle.scheduler.proofs.opening.close_all.Goals as goal

pub loop-token-preserved : goal.loop-token-preserved
loop-token-preserved c =
    ap (closed_back c.pop.new.self.items) c.close.ensures
    ∙ sym (back_end c.pop.new.self.items c.in-Some.token c.loop-token.open_places)
    ∙ sym (ap (λ ts. closed_back ts c.loop-token.open_places) c.in-Some.ensures.items)
    ∙ c.loop-token.invariant
