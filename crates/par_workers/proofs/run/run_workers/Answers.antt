use Rattle.std.proofs.Common.{◌≡◌, ◌++◌, List, length, drop, sym, ap, ◌∙◌, arith, length-append}
use Rattle.std.proofs.lemmas.List.{length-take-le}
use Rattle.turn_lock.specs.Passes.{view}
use Rattle.par_workers.specs.declared.worker.Worker.{Worker}
use Rattle.par_workers.specs.Shared.{SharedValue}
use Rattle.par_workers.proofs.Runs.{are_shared}
use Rattle.par_workers.proofs.run.run_workers.Goals as goal

pub returns : goal.returns
returns g c =
    let begun = c.close.ensures.fixed ∙ c.in_ok-lock.ensures.fixed ∙ ap (λ (s : SharedValue). s.begun) c.in_ok-shared.ensures.run in
    let crew = c.in_ok-crew.crew in
    let worked = c.set_to_work.new.workers in
    let same : length worked ≡ length crew.items = c.set_to_work.ensures.count ∙ ap (λ (ws : List Worker). length ws) c.as_mut_slice.ensures.value in
    let ok = crew.ok.0 in
    let count = c.in_ok-dismiss.ensures.count.1 ∙ length-take-le crew.len (worked ++ drop (length worked) crew.items) (rw (length-append worked (drop (length worked) crew.items)) (omega arith)) ∙ ok
    ∙ c.in_ok-crew.ensures.count ∙ c.in_ok-shared.ensures.hands ∙ c.in_ok-hands.ensures.hands ∙ sym c.requires.workers.2 in
    are_shared c.close.result c.args.core c.into_scheduler.result.core (view c.dismiss.new.first).joined c.dismiss.new.receipts.items begun c.into_scheduler.ensures.shared count c.in_ok-dismiss.ensures.receipts c.close.ensures.joined
