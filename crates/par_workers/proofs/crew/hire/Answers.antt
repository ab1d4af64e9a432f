use Rattle.std.proofs.Common.{◌+◌, ◌++◌, [], ◌∷◌, List, ap, sym, ◌∙◌, append_assoc, length-append, arith}
use Rattle.std.proofs.lemmas.List.Elements.{All-push}
use Rattle.std.specs.Vec.Iter.{into_iter_items}
use Rattle.task_pool.specs.Places.{Standing}
use Rattle.turn_lock.specs.declared.view.View.{View}
use Rattle.turn_lock.specs.Passes.{IsPassOf}
use Rattle.step_commit.specs.Cores.{CoreValue}
use Rattle.par_workers.specs.declared.made.Made.{Made}
use Rattle.par_workers.specs.declared.worker.Worker.{Worker}
use Rattle.par_workers.proofs.Crews.{numbered-push}
use Rattle.par_workers.proofs.crew.hire.Goals as goal

pub loop-hand-preserved : goal.loop-hand-preserved
loop-hand-preserved c =
    let i = c.loop-hand.invariant in
    let f = c.split.ensures.first in
    let workers = c.loop-hand.workers.items in
    let split = ap (λ (v : View CoreValue Made). v.split_count) f in
    let whole = ap (λ (hs : List Standing). c.loop-hand.yielded ++ hs) (sym c.in-Some.ensures.steps.0) ∙ i.hands in
    let was = i.count.0 in
    let hired = i.count.1 in
    let number = i.count.2 in
    let yielded = length-append c.loop-hand.yielded (c.in-Some.hand ∷ []) in
    record {
      hands = append_assoc c.loop-hand.yielded (c.in-Some.hand ∷ []) (into_iter_items c.next.new.self) ∙ whole;
      lock = c.split.ensures.lock.0;
      first = (ap (λ (v : View CoreValue Made). v.number) f ∙ i.first.0, c.split.ensures.idle.0);
      fixed = ap (λ (v : View CoreValue Made). v.fixed) f ∙ i.fixed;
      none = (ap (λ (v : View CoreValue Made). v.joined) f ∙ i.none.0, ap (λ (v : View CoreValue Made). v.seen) f ∙ i.none.1);
      count = (omega arith, rw c.in_ok-push.ensures.items (length-append workers _ ∙ ap (λ n. n + 1) hired ∙ sym yielded), omega arith);
      workers = rw c.in_ok-push.ensures.items (All-push (λ (w : Worker). IsPassOf c.args.lock.now w.pass) workers _ i.workers c.split.ensures.lock.1);
      numbers = rw c.in_ok-push.ensures.items (numbered-push 1 workers _ i.numbers (omega arith));
    }
