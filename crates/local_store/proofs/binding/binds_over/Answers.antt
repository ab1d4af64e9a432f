use Rattle.std.proofs.Common.{append-nil}
use Rattle.std.proofs.lemmas.Result.{IfOk-weaker}
use Rattle.rational_unify.proofs.Chains.{BindNew-found}
use Rattle.local_store.specs.Bound.{taken, clashes}
use Rattle.local_store.proofs.Joining.{fresh-all}
use Rattle.local_store.proofs.binding.binds_over.Goals as goal

pub take-requires : goal.take-requires
take-requires g c = rw (c.new.ensures, append-nil (g.K.Lookup.bindings c.args.known.now)) c.requires.solved

pub returns-in-Some : goal.returns-in-Some
returns-in-Some g c = clashes c.in-Some.field-0.left c.in-Some.field-0.right (rw (c.in-Some.is, c.new.ensures) at c.in_ok-take.ensures.taken) c.requires.empty

pub bound_by-requires-clause-solved : goal.bound_by-requires-clause-solved
bound_by-requires-clause-solved g c = let t = rw (c.in-None.is, c.new.ensures) at c.in_ok-take.ensures.taken in rw c.in_ok-take.ensures.known t.form.solved

pub bound_by-requires-clause-found : goal.bound_by-requires-clause-found
bound_by-requires-clause-found g c =
    let t = rw (c.in-None.is, c.new.ensures) at c.in_ok-take.ensures.taken in
    rw (c.as_slice.ensures, c.in_ok-take.ensures.known) (BindNew-found _ _ (fresh-all _ _ _ _ t))

pub returns : goal.returns
returns g c =
    let t = rw (c.in-None.is, c.new.ensures) at c.in_ok-take.ensures.taken in
    IfOk-weaker c.bound_by.result _ _ (λ z h. taken c.take.new.self.added t h) (rw (c.as_slice.ensures, c.in_ok-take.ensures.known, c.requires.empty) at c.bound_by.ensures)
