use Rattle.std.proofs.Common.{Bool, refl, subst, sym, append-nil}
use Rattle.std.specs.Prelude.{IsTrue, ◌↔◌}
use Rattle.rational_unify.specs.Older.{EachOlder}
use Rattle.rational_unify.proofs.Chains.{BindNew-found}
use Rattle.local_store.specs.Promoting.{found, clashing}
use Rattle.local_store.proofs.Answered.{IfOk-both}
use Rattle.local_store.proofs.PartsJoined.{more-part}
use Rattle.local_store.proofs.Joining.{fresh-all}
use Rattle.local_store.proofs.promoting.join.Goals as goal

pub returns-in-Some-clause-joins : goal.returns-in-Some-clause-joins
returns-in-Some-clause-joins g c = λ s.
    clashing c.in-Some.field-0.left c.in-Some.field-0.right (rw (c.in-Some.is, c.new.ensures) at c.in_ok-take.ensures.taken)
    (more-part c.args.told.now.part (record { frames = c.args.told.now.part.frames; ports = c.args.told.now.part.ports; bindings = c.extend_from_slice.new.self }) c.args.bindings.now (refl, refl) c.in_ok-extend_from_slice-in-Some.ensures.items s) c.requires.untold.0 c.requires.untold.1

pub add-requires-clause-found : goal.add-requires-clause-found
add-requires-clause-found g c =
    let t = rw (c.in-None.is, c.new.ensures) at c.in_ok-take.ensures.taken in
    rw (c.as_slice.ensures, c.in_ok-take.ensures.known) (BindNew-found _ _ (fresh-all _ _ _ _ t))

pub returns-clause-joins : goal.returns-clause-joins
returns-clause-joins g c =
    let older = rw (c.in-None.is, c.new.ensures, append-nil (g.K.Lookup.bindings c.args.known.now)) at c.in_ok-take.ensures.older in
    IfOk-both c.add.result _ _ _
    (λ t store bound s. found c.take.new.self.added (rw (c.in-None.is, c.new.ensures) at c.in_ok-take.ensures.taken) older (store s)
    (subst (λ (b : Bool). IsTrue b ↔ EachOlder c.args.templates.now.nodes c.args.bindings.now) (sym c.add.ensures.solved) c.leads_older-told.ensures) bound)
    (rw c.as_slice.ensures at c.add.ensures.store) (rw (c.as_slice.ensures, c.in_ok-take.ensures.known, c.requires.untold.1) at c.add.ensures.bound)
