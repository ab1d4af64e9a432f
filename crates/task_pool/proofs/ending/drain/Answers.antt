use Rattle.std.proofs.Common.{[], ◌∷◌, ◌++◌, ap, sym, ◌∙◌, subst, append_assoc, append-nil}
use Rattle.crossbeam_deque.specs.Handles.{worker_view}
use Rattle.task_pool.specs.Kept.{Leaves}
use Rattle.task_pool.proofs.Drains.{an_account, drains, drained}
use Rattle.task_pool.proofs.ending.drain.Goals as goal

pub pop_as-requires-clause-fifo : goal.pop_as-requires-clause-fifo
pop_as-requires-clause-fifo c _ =
    let i = c.loop-token.invariant in
    let a = an_account (worker_view c.loop-token.deque) i.all i.passes in
    rw i.port (drains (worker_view c.loop-token.deque) a.0 a.1 a.2)

pub loop-token-smaller : goal.loop-token-smaller
loop-token-smaller c =
    let i = c.loop-token.invariant in
    let d = drained (worker_view c.loop-token.deque) (worker_view c.pop_as.new.self) c.in-Some.token i.all i.passes c.in-Some.ensures.rule in
    d.smaller

pub loop-token-preserved : goal.loop-token-preserved
loop-token-preserved c =
    let i = c.loop-token.invariant in
    let d = drained (worker_view c.loop-token.deque) (worker_view c.pop_as.new.self) c.in-Some.token i.all i.passes c.in-Some.ensures.rule in
    let token = c.in-Some.token in
    record {
      fifo = c.pop_as.ensures.same.0.1 ∙ i.fifo;
      port = c.pop_as.ensures.same.0.2 ∙ i.port;
      all = d.all;
      passes = d.passes;
      taken = (
        i.taken.0 ++ token ∷ [],
        c.in_ok-push.ensures.items ∙ ap (λ l. l ++ token ∷ []) i.taken.1 ∙ append_assoc c.args.left.now.items i.taken.0 (token ∷ []),
        λ items l.
            subst (Leaves (worker_view c.args.deque.now))
            (ap (λ rest. i.taken.0 ++ (token ∷ rest)) (sym (d.next items l)) ∙ sym (append_assoc i.taken.0 (token ∷ []) items))
            (i.taken.2 (token ∷ d.left) d.leaves),
      );
    }

pub returns : goal.returns
returns c =
    let i = c.loop-token.invariant in
    (i.taken.0, i.taken.1, subst (Leaves (worker_view c.args.deque.now)) (append-nil i.taken.0) (i.taken.2 [] c.in_default.ensures.rule.1))
