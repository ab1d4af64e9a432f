use Rattle.std.proofs.Common.{◌∙◌, ap}
use Rattle.task_pool.specs.Places.{Standing}
use Rattle.task_pool.proofs.Rows.{map_set}
use Rattle.base_tests.proofs.pool.push_on.Goals as goal

pub returns-clause-pool : goal.returns-clause-pool
returns-clause-pool c p =
    (p.0, map_set (λ (h : Standing). h.place) c.args.hands.now.items c.args.number c.push.new.hand c.index_mut-hand.result.now (c.push.ensures.place ∙ ap (λ (h : Standing). h.place) c.index_mut-hand.ensures.value) ∙ p.1)
