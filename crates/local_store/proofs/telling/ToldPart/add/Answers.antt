use Rattle.std.proofs.Common.{refl}
use Rattle.std.proofs.lemmas.Result.{IfOk-weaker}
use Rattle.local_store.proofs.PartsJoined.{more-part}
use Rattle.local_store.proofs.telling.ToldPart.add.Goals as goal

pub returns-clause-store : goal.returns-clause-store
returns-clause-store g c = IfOk-weaker c.bound_by.result _ _ (λ z h. more-part c.args.self.now.part
    (record { frames = c.args.self.now.part.frames; ports = c.args.self.now.part.ports; bindings = c.extend_from_slice.new.self }) c.args.added.now (refl, refl) c.in_ok-extend_from_slice.ensures.items) c.bound_by.ensures
