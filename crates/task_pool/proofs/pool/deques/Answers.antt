use Rattle.std.proofs.Common.{◌≡◌, [], ◌∷◌, All, sym, subst, rules}
use Rattle.std.proofs.lemmas.List.Elements.{All-append, All-nil}
use Rattle.crossbeam_deque.specs.Handles.{worker_capacity}
use Rattle.task_pool.specs.Owners.{IsFresh}
use Rattle.task_pool.specs.Places.{first_room}
use Rattle.task_pool.proofs.Fresh.{made_with, new_deque}
use Rattle.task_pool.proofs.Keeps.{all_more}
use Rattle.task_pool.proofs.Passing.{begins}
use Rattle.task_pool.proofs.pool.deques.Goals as goal

pub fifo_as-requires : goal.fifo_as-requires
fifo_as-requires c = begins

pub loop-preserved : goal.loop-preserved
loop-preserved c =
    let l = c.loop.invariant in
    let d = c.in_ok-fifo_as.field-0 in
    let made = c.in_ok-fifo_as.ensures in
    let room = made_with (worker_capacity d) made.0 in
    let items = c.in_ok-push.ensures.items in
    record {
      count = search rules;
      fresh = subst (All (IsFresh 0)) (sym items) (All-append (IsFresh 0) c.loop.deques.items (d ∷ []) l.fresh (all_more (IsFresh 0) d [] (new_deque d made.1 made.2 made.3 made.4 room) (All-nil (IsFresh 0))));
      room = subst (All (λ e. worker_capacity e ≡ first_room)) (sym items)
          (All-append (λ e. worker_capacity e ≡ first_room) c.loop.deques.items (d ∷ []) l.room (all_more (λ e. worker_capacity e ≡ first_room) d [] room (All-nil (λ e. worker_capacity e ≡ first_room))));
    }
