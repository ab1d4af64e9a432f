use Rattle.std.proofs.Common.{refl, sym, ◌∙◌, ap, length}
use Rattle.std.proofs.lemmas.Result.{IfOk-weaker}
use Rattle.local_store.specs.Promoting.{over_solved, as_they_stand}
use Rattle.local_store.proofs.Known.{whole-known}
use Rattle.local_store.proofs.PartsJoined.{more-part}
use Rattle.local_store.proofs.promoting.join_chain.Goals as goal

pub returns-then-known-stores-clause-joins : goal.returns-then-known-stores-clause-joins
returns-then-known-stores-clause-joins c =
    let all = c.if-known-stores.true ∙ ap length c.stores.ensures in
    IfOk-weaker c.join.result _ _
    (λ z h s. over_solved (sym c.known.ensures.known ∙ all) (whole-known c.args.outer.now.nodes c.args.outer.now.stores c.known.result c.known.ensures.solved all) (h s))
    (rw c.templates.ensures.nodes at c.join.ensures.joins)

pub returns-clause-joins : goal.returns-clause-joins
returns-clause-joins c = IfOk-weaker c.bound_over.result _ _
    (λ z h s. as_they_stand (λ e. c.if-known-stores.false (c.known.ensures.known ∙ e ∙ ap length (sym c.stores.ensures))) (more-part c.args.told.now.part (record { frames = c.args.told.now.part.frames; ports = c.args.told.now.part.ports; bindings = c.extend_from_slice.new.self }) c.args.bindings.now (refl, refl) c.in_ok-extend_from_slice.ensures.items s) c.requires.0 h)
    c.bound_over.ensures
