use Rattle.std.proofs.Common.{◌-◌, ◌<◌, ◌≤◌, length, sym, ◌∙◌, arith}
use Rattle.scheduler.proofs.HasOpen.{one_open}
use Rattle.scheduler.proofs.scheduler.Scheduler.has_open.Goals as goal

pub returns-then-has_open_at : goal.returns-then-has_open_at
returns-then-has_open_at c =
    let i : 0 < c.loop-k.k = c.loop-k-test.true in
    let j : c.loop-k.k ≤ length c.args.boxes.now = c.loop-k.auto.k in
    sym (one_open c.args.self.now.openings c.args.boxes.now (c.loop-k.k - 1) _ (omega (arith, i, j)) (sym c.has_open_at.ensures ∙ c.if-has_open_at.true))
