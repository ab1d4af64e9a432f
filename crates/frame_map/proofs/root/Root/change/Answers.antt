use Rattle.name_map.proofs.Lent.{on_ok_map}
use Rattle.frame_map.specs.Roots.{of_root}
use Rattle.frame_map.proofs.Changes.{made_after}
use Rattle.frame_map.proofs.root.Root.change.Goals as goal

pub returns-clause-made : goal.returns-clause-made
returns-clause-made g c =
    on_ok_map c.change.result (made_after (g.C.Change.makes c.args.change) (of_root c.args.self.now).contents (of_root c.widen.new.self).contents _ c.widen.ensures.same c.args.number) c.change.ensures.made
