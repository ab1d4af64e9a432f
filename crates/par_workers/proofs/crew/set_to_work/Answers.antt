use Rattle.std.proofs.Common.{sym, ap, ◌∙◌}
use Rattle.par_workers.specs.declared.worker.Worker.{Worker}
use denote.Param.Send.{sendable}
use Rattle.std.proofs.Crossing as owned
use Rattle.akl_terms.proofs.program.Program.TheSendSync as programs
use Rattle.turn_lock.proofs.lock.TurnLock.TheSendSync as locks
use Rattle.par_workers.proofs.Crews.{numbered-changed}
use Rattle.par_workers.proofs.Crossing.{SharedRun-send, Signals-sync, Worker-send}
use Rattle.par_workers.proofs.crew.set_to_work.Goals as goal

pub returns-clause-numbers : goal.returns-clause-numbers
returns-clause-numbers g c = numbered-changed 1 c.args.workers.now c.for_each_mut.new.s c.for_each_mut.auto.s
    (λ k d l. let t = (c.for_each_mut.ensures k d l).1 in
    sym (ap (λ (w : Worker). w.number) t.left) ∙ t.call.1 ∙ ap (λ (w : Worker). w.number) t.argument_is)
    c.requires.numbers

pub for_each_mut-requires-send-T : goal.for_each_mut-requires-send-T
for_each_mut-requires-send-T g c κs within = let a = Worker-send in search sendable depth 60 fits 20000

pub for_each_mut-requires-sync-F : goal.for_each_mut-requires-sync-F
for_each_mut-requires-sync-F g c κs within =
    let a = SharedRun-send in
    let b = Signals-sync in
    let r = c.type_bounds.sync-R in
    let s = c.type_bounds.sync-G in
    search (owned.crosses, locks.the_sync, programs.the_sync, sendable) depth 60 fits 20000
