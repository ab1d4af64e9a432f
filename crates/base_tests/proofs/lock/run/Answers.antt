use Rattle.std.proofs.Common.{rules, sym, subst, ◌<◌, length}
use Rattle.turn_lock.specs.Passes.{IsPassOf}
use Rattle.base_tests.proofs.lock.run.Goals as goal

pub for_each_mut-requires-clause-accepts : goal.for_each_mut-requires-clause-accepts
for_each_mut-requires-clause-accepts g c κs within i p l is = subst (λ w. IsPassOf c.args.lock.now w.pass) (sym is) (c.requires i p.now l)

pub returns : goal.returns
returns g c k d l =
    let l' : k < length c.args.workers.now = search rules in
    let t = (c.for_each_mut.ensures k d l').1 in
    subst (λ w. IsPassOf c.args.lock.now w.pass) t.left t.call
