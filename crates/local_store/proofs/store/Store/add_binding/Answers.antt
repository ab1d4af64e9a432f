use Rattle.std.proofs.Common.{List, ap, ◌∙◌}
use Rattle.akl_terms.specs.declared.name.Var.{Var}
use Rattle.akl_terms.specs.declared.term.Term.{Term}
use Rattle.local_store.specs.Stored.{Stored, with_binding, all_named}
use Rattle.local_store.specs.Kept.{value_of, frames_of, bindings_of}
use Rattle.local_store.proofs.Known.{joins-push}
use Rattle.local_store.proofs.store.Store.add_binding.Goals as goal

pub returns-clause-added : goal.returns-clause-added
returns-clause-added c =
    ap (λ (l : List (Var × Term)). value_of c.self.inside.settled c.self.inside.frames.items l c.self.inside.ports) c.in_ok-push.ensures.items
    ∙ ap (λ (l : List (Var × Term)). record { frames = all_named (frames_of c.self.inside.settled) c.self.inside.frames.items; bindings = l; ports = c.self.inside.ports })
    (joins-push (bindings_of c.self.inside.settled) c.self.inside.bindings.items (c.args.variable, c.args.term))
    ∙ ap (λ (s : Stored). with_binding s c.args.variable c.args.term) (c.self.view_is ∙ c.make_room.ensures)
