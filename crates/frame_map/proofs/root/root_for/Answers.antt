use Rattle.std.proofs.Common.{◌≢◌, List, Some, ap, subst, ◌∙◌}
use Rattle.name_map.specs.Pages.{within}
use Rattle.frame_map.specs.declared.root.Root.{Root}
use Rattle.frame_map.specs.Roots.{all_roots, place_of, worker_of}
use Rattle.frame_map.proofs.Roots.{IsMade, made}
use Rattle.frame_map.proofs.root.root_for.Given.{Over}
use Rattle.frame_map.proofs.root.root_for.Goals as goal
use Rattle.frame_map.proofs.root.root_for.Goals.{In_ok-insert}

new_root : (g : Over) (c : In_ok-insert g) → IsMade c.args.roots.now.items c.insert.new.self.items c.args.name.worker c.place_of-place.result
new_root g c = made c.args.roots.now.items c.insert.new.self.items c.args.name.worker c.place_of-place.result c.width_for.result c.requires c.width_for.ensures.most
    (c.place_of-place.ensures.place ∙ ap (λ (rs : List (Root g.row.V.Denot)). place_of c.args.name.worker (all_roots rs)) c.as_slice.ensures)
    (subst (λ (rs : List (Root g.row.V.Denot)). within worker_of (all_roots rs) c.place_of-place.result ≢ Some c.args.name.worker) c.as_slice-2.ensures (c.is_at.ensures.missing c.if-is_at.false))
    c.in_ok-insert.ensures.ok

pub returns-clause-there : goal.returns-clause-there
returns-clause-there g c = (new_root g (goal.at.returns-clause-there g c).In_ok-insert).there

pub returns-clause-same : goal.returns-clause-same
returns-clause-same g c = (new_root g (goal.at.returns-clause-same g c).In_ok-insert).same

pub returns-clause-roots : goal.returns-clause-roots
returns-clause-roots g c = (new_root g (goal.at.returns-clause-roots g c).In_ok-insert).are
