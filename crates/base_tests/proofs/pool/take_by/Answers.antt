use Rattle.std.proofs.Common.{◌∙◌, ap}
use Rattle.task_pool.specs.Places.{Standing}
use Rattle.task_pool.proofs.Rows.{map_set}
use Rattle.base_tests.proofs.pool.take_by.Goals as goal

pub returns-clause-pool : goal.returns-clause-pool
returns-clause-pool g c p =
    (p.0, map_set (λ (h : Standing). h.place) c.args.hands.now.items c.args.number c.take.new.hand c.index_mut-hand.result.now (c.take.ensures.place ∙ ap (λ (h : Standing). h.place) c.index_mut-hand.ensures.value) ∙ p.1)
