use Rattle.std.proofs.Common.{◌∙◌, ap, append-nil}
use Rattle.std.proofs.lemmas.Result.{IfOk-weaker}
use Rattle.local_store.specs.Telling.{taken, clashing}
use Rattle.local_store.proofs.telling.tell_over.Goals as goal

pub returns-in-Some-clause-adds : goal.returns-in-Some-clause-adds
returns-in-Some-clause-adds g c = IfOk-weaker c.add_clash.result _ _
    (λ z store s. clashing c.in-Some.clash.left c.in-Some.clash.right (rw (c.in-Some.is, c.new.ensures) at c.in_ok-clash.ensures.taken) (store s)
    (ap (λ v. v.items) c.add_clash.ensures.bound ∙ c.requires.untold.1))
    c.add_clash.ensures.store

pub returns-clause-adds : goal.returns-clause-adds
returns-clause-adds g c = IfOk-weaker c.tell.result _ _
    (λ z h s. taken c.take_stores.new.form.added (rw (c.in-None.is, c.new.ensures) at c.in_ok-clash.ensures.taken) (rw (c.in-None.is, c.new.ensures, append-nil (g.K.Lookup.bindings c.args.known.now)) at c.in_ok-clash.ensures.older) c.tell.new.told.solved (h s))
    (rw c.in_ok-clash.ensures.known at c.tell.ensures.adds)
