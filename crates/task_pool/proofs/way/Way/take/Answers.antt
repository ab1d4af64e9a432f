use Rattle.std.proofs.Common.{◌≡◌, ap, ◌∙◌, arith}
use Rattle.crossbeam_deque.specs.Handles.{stealer_flavor}
use Rattle.task_pool.specs.declared.view.View.{View}
use Rattle.task_pool.proofs.Looks.{finds}
use Rattle.task_pool.proofs.way.Way.take.Goals as goal

pub steal_as-requires-clause-table : goal.steal_as-requires-clause-table
steal_as-requires-clause-table g c = c.loop.invariant.pass

pub steal_as-requires-clause-takes : goal.steal_as-requires-clause-takes
steal_as-requires-clause-takes g c =
    c.laws.ensures.takes _ _ _ _ (ap (λ (v : View). v.accounts) (c.loop.invariant.view ∙ c.requires.1.2))

pub steal_as-requires-clause-empty : goal.steal_as-requires-clause-empty
steal_as-requires-clause-empty g c =
    let fifo : stealer_flavor c.loop.self.stealer ≡ 0 = c.loop.invariant.flavor ∙ c.requires.1.1 in
    finds _ _ _ _ (omega arith)
