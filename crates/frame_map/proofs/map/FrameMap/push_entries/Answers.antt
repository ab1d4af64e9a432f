use Rattle.std.proofs.Common.{List, sym, subst}
use Rattle.frame_map.specs.declared.root.Root.{Root}
use Rattle.frame_map.specs.Roots.{all_roots, AreRoots}
use Rattle.frame_map.proofs.Whole.{is_root_there, root_listed}
use Rattle.frame_map.proofs.map.FrameMap.push_entries.Goals as goal

pub push_entries-requires-clause-root : goal.push_entries-requires-clause-root
push_entries-requires-clause-root g c =
    is_root_there c.as_slice-root-items.result.now c.loop-root.root-index c.root-item.result (subst (λ (rs : List (Root g.row.V.Denot)). AreRoots (all_roots rs)) (sym c.as_slice-root-items.ensures) c.self.invariant) c.loop-root-test.true c.root-item.is

pub loop-root-preserved : goal.loop-root-preserved
loop-root-preserved g c = root_listed c.as_slice-root-items.result.now c.loop-root.root-index c.root-item.result c.loop-root.list.items c.push_entries.new.list.items _ c.loop-root-test.true c.root-item.is c.in_ok-push_entries.ensures c.loop-root.invariant
