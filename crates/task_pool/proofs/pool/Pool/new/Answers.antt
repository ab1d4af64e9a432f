use Rattle.std.proofs.Common.{◌≡◌, ℕ, List, [], ◌∷◌, ◌++◌, length, map, slice_get, All, IfOk, Vec, ap, sym, ◌∙◌, subst, length-append, arith}
use Rattle.std.proofs.lemmas.List.{length-map}
use Rattle.std.specs.Global.{Global}
use Rattle.crossbeam_deque.specs.Handles.{worker_deque}
use Rattle.task_pool.specs.declared.rule.InOrder.{InOrder}
use Rattle.task_pool.specs.declared.way.Way.{Way}
use Rattle.task_pool.specs.Owners.{AreFreshWays}
use Rattle.task_pool.specs.Places.{DequeId, IsNew}
use Rattle.task_pool.proofs.Begins.{one_more_at}
use Rattle.task_pool.proofs.pool.Pool.new.Goals as goal

pub ways_into-requires : goal.ways_into-requires
ways_into-requires c = (c.loop.counter, c.loop.invariant.fresh)

pub loop-preserved : goal.loop-preserved
loop-preserved c =
    let l = c.loop.invariant in
    let old = c.loop.deques.items in
    let new = c.ways_into.new.deques.items in
    let same : map worker_deque new ≡ map worker_deque old = c.in_ok-ways_into.ensures.same in
    let row = c.in_ok-ways_into.field-0 in
    let items : c.push.new.self.items ≡ c.loop.rows.items ++ row ∷ [] = c.in_ok-push.ensures.items in
    let fresh = c.in_ok-ways_into.ensures.ways c.loop.counter l.fresh in
    record {
      count = (let a = length-map new worker_deque in let b = length-map old worker_deque in let s = ap (λ ds. length ds) same in let k = l.count in omega arith);
      rows_count = (let a = ap (λ rs. length rs) items in let b = length-append c.loop.rows.items (row ∷ []) in let k = l.rows_count in omega arith);
      fresh = c.in_ok-ways_into.ensures.more c.loop.counter l.fresh;
      rows = λ k r at.
          one_more_at (λ (j : ℕ) (v : Vec (Way InOrder) Global). AreFreshWays j (map worker_deque new) v.items) c.loop.rows.items row
          (λ j v e. subst (λ (ids : List DequeId). AreFreshWays j ids v.items) (sym same) (l.rows j v e))
          (subst (λ (ids : List DequeId). AreFreshWays (length c.loop.rows.items) ids row.items) (sym same)
          (subst (λ (j : ℕ). AreFreshWays j (map worker_deque old) row.items) (sym l.rows_count) fresh))
          k r (ap (λ rs. slice_get rs k) (sym items) ∙ at);
    }

pub returns-clause-fresh : goal.returns-clause-fresh
returns-clause-fresh c =
    subst (λ (n : ℕ). IfOk c.hands_of.result (λ hands. All (IsNew n) hands.items)) c.loop.invariant.count c.hands_of.ensures.fresh
