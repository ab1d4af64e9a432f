use Rattle.std.proofs.Common.{ap, ◌∙◌, ◌++◌}
use Rattle.local_store.specs.Stored.{Stored}
use Rattle.local_store.specs.Parts.{with_part, all_ports}
use Rattle.local_store.proofs.PartsJoined.{joined-part}
use Rattle.local_store.proofs.store.Store.join.Goals as goal

pub returns-clause-joined : goal.returns-clause-joined
returns-clause-joined c = c.keep_few.ensures
    ∙ joined-part c.self.inside.settled c.self.inside.frames.items c.in_ok-frames.frames.items c.self.inside.bindings.items c.in_ok-bindings.bindings.items c.self.inside.ports c.set_all.new.self c.args.part
    (c.in_ok-frames.ensures ∙ ap (λ l. l ++ c.args.part.frames.items) c.as_slice.ensures) (c.in_ok-bindings.ensures ∙ ap (λ l. l ++ c.args.part.bindings.items) c.deref.ensures.value)
    (c.in_ok-set_all.ensures.set ∙ ap (all_ports c.self.inside.ports) c.as_slice-2.ensures.value)
    ∙ ap (λ (s : Stored). with_part s c.args.part) c.self.view_is
