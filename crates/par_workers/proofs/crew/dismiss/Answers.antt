use Rattle.std.proofs.Common.{◌≡◌, ◌+◌, ◌++◌, [], ◌∷◌, List, length, ap, sym, ◌∙◌, subst, append_assoc, length-append}
use Rattle.std.proofs.lemmas.List.{map-append, length-map}
use Rattle.std.specs.Vec.Iter.{into_iter_items}
use Rattle.turn_lock.specs.declared.view.View.{View}
use Rattle.turn_lock.specs.declared.view.Joined.{Joined}
use Rattle.turn_lock.specs.Passes.{view}
use Rattle.step_commit.specs.Cores.{CoreValue}
use Rattle.par_workers.specs.declared.made.Made.{Made}
use Rattle.par_workers.specs.declared.worker.Worker.{Worker}
use Rattle.par_workers.specs.Shared.{AreReceiptsOf}
use Rattle.par_workers.specs.Crews.{lists}
use Rattle.par_workers.proofs.Crews.{numbered-split, joined_more}
use Rattle.par_workers.proofs.crew.dismiss.Goals as goal

pub loop-worker-preserved : goal.loop-worker-preserved
loop-worker-preserved c =
    let i = c.loop-worker.invariant in
    let w = c.in-Some.worker in
    let v = view w.pass in
    let f = c.join.ensures.first in
    let whole = ap (λ (ws : List Worker). c.loop-worker.yielded ++ ws) (sym c.in-Some.ensures.steps.0) ∙ i.workers in
    let number : w.number ≡ 1 + length c.loop-worker.yielded = numbered-split 1 c.loop-worker.yielded w _ c.args.workers.items whole c.requires.numbers in
    let joined = ap (λ (u : View CoreValue Made). u.joined) f in
    let was = c.loop-worker.receipts.items in
    let count = i.count in
    let yielded = sym (length-append c.loop-worker.yielded (w ∷ [])) in
    record {
      workers = append_assoc c.loop-worker.yielded (w ∷ []) (into_iter_items c.next.new.self) ∙ whole;
      lock = c.join.ensures.lock;
      first = (ap (λ (u : View CoreValue Made). u.number) f ∙ i.first.0, c.join.ensures.idle, ap (λ (u : View CoreValue Made). u.split_count) f ∙ i.first.2);
      count = (
        ap (λ (js : List (Joined Made)). length js) joined ∙ length-append _ _ ∙ ap (λ n. n + 1) count.0 ∙ yielded,
        rw c.in_ok-push.ensures.items (length-append was _ ∙ ap (λ n. n + 1) count.1 ∙ yielded),
      );
      receipts = rw (c.in_ok-push.ensures.items, joined, map-append (λ v. v.items) was (w.receipts ∷ []))
          (joined_more 1 (view c.loop-worker.first).joined (lists was) _ w.receipts.items i.receipts
          (w.numbered.0 ∙ number ∙ ap (λ n. 1 + n) (sym count.1 ∙ sym (length-map was _)))
          (subst (λ n. AreReceiptsOf n v.seen w.receipts.items) (sym w.numbered.0) w.exact));
    }
