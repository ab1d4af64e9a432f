use Rattle.std.proofs.Common.{rules, ◌≡◌, ℕ, length, get_or, ap, sym, ◌∙◌, subst, arith}
use Rattle.std.proofs.lemmas.List.{length-map}
use Rattle.std.specs.Vec.Iter.{into_iter_items}
use Rattle.crossbeam_deque.specs.Handles.{worker_view, IsPassOf, SameWorker}
use Rattle.task_pool.specs.Owners.{ways_of, others}
use Rattle.task_pool.specs.Places.{DequeId}
use Rattle.task_pool.proofs.Gathers.{the_row, gathers, next_is, next_rows, not_ended}
use Rattle.task_pool.proofs.Passing.{merges}
use Rattle.task_pool.proofs.Rows.{changed, changed_all}
use Rattle.task_pool.proofs.ending.gather.Goals as goal
use Rattle.task_pool.proofs.ending.gather.Goals.{in-Some, in_default}

pub absorb-requires-clause-table : goal.absorb-requires-clause-table
absorb-requires-clause-table c =
    let at = the_row c.args.rows.now c.loop-k.rows c.loop-k.k c.index-rows-k.result (search rules) c.loop-k.invariant.rows in
    let e = next_is c.loop-k.k _ _ c.in-Some.field-0 _ (c.requires.rows c.loop-k.k _ at) c.in-Some.ensures.items in
    subst (λ (id : DequeId). IsPassOf id c.in-Some.field-0.pass) (e.1 ∙ sym c.loop-k.invariant.same.0) e.0.0

pub absorb-requires-clause-rule : goal.absorb-requires-clause-rule
absorb-requires-clause-rule c = rw (c.loop-k.invariant.same.2 ∙ c.requires.owner) (merges _ _ _)

pub loop-k-preserved : goal.loop-k-preserved
loop-k-preserved c =
    let at = the_row c.args.rows.now c.loop-k.rows c.loop-k.k c.index-rows-k.result (search rules) c.loop-k.invariant.rows in
    let n = c.requires.rows c.loop-k.k _ at in
    let l = c.loop-k.invariant in
    elim c.match-next.branch [
      | in-Some w ↦
          let items = w.in-Some.ensures.items in
          let e = next_is c.loop-k.k _ _ w.in-Some.field-0 _ n items in
          let s = w.absorb.ensures.same.0 in
          record {
            same = subst (SameWorker c.args.deque.now) (sym w.deque-is) (s.0 ∙ l.same.0, s.1 ∙ l.same.1, s.2 ∙ l.same.2, omega arith);
            view = ap worker_view w.deque-is
                ∙ gathers (worker_view c.args.deque.now) (worker_view c.loop-k.deque) (worker_view w.absorb.new.self) (ways_of c.args.rows.now) c.loop-k.k _ w.in-Some.field-0 _ at items e.0 l.view w.absorb.ensures.rule;
            rows = next_rows c.args.rows.now c.loop-k.rows c.loop-k.k c.next.new.self _ w.in-Some.field-0 l.rows at items;
          }
      | in_default w ↦ absurd (not_ended c.loop-k.k _ (get_or c.loop-k.rows c.loop-k.k c.index-rows-k.result) n w.in_default.ensures.cases.0)
    ]

pub returns-clause-rows : goal.returns-clause-rows
returns-clause-rows c =
    let l = length-map c.args.rows.now into_iter_items in
    let all : c.loop-k.k ≡ length (ways_of c.args.rows.now) = omega arith in
    c.loop-k.invariant.rows ∙ ap (λ (m : ℕ). changed others m (ways_of c.args.rows.now)) all ∙ changed_all others (ways_of c.args.rows.now)
