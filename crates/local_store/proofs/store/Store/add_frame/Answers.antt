use Rattle.std.proofs.Common.{List, ap, ◌∙◌}
use Rattle.akl_terms.specs.declared.name.Name.{Name}
use Rattle.local_store.specs.Stored.{Stored, with_frame, joins}
use Rattle.local_store.specs.Kept.{value_of, frames_of, bindings_of}
use Rattle.local_store.proofs.Steps.{all_named-push}
use Rattle.local_store.proofs.store.Store.add_frame.Goals as goal

pub returns-clause-added : goal.returns-clause-added
returns-clause-added c =
    ap (λ (l : List Name). value_of c.self.inside.settled l c.self.inside.bindings.items c.self.inside.ports) c.in_ok-push.ensures.ok
    ∙ ap (λ (l : List Name). record { frames = l; bindings = joins (bindings_of c.self.inside.settled) c.self.inside.bindings.items; ports = c.self.inside.ports })
    (all_named-push (frames_of c.self.inside.settled) c.self.inside.frames.items c.args.frame)
    ∙ ap (λ (s : Stored). with_frame s c.args.frame) (c.self.view_is ∙ c.make_room.ensures)
