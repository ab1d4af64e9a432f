use Rattle.std.proofs.Common.{subst}
use Rattle.name_map.specs.Entries.{IsPut}
use Rattle.name_map.proofs.Lent.{on_ok_map}
use Rattle.frame_map.proofs.map.FrameMap.insert.Goals as goal

pub returns-clause-put : goal.returns-clause-put
returns-clause-put g c = on_ok_map c.change.result (λ h. subst (λ (v : g.row.V.Denot). IsPut c.args.self.now c.change.new.self c.args.name v) h.made h.put) c.change.ensures.changed
