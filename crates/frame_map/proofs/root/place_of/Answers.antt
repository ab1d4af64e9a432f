use Rattle.std.proofs.Common.{◌<◌, length, ap, lt-ltb, le-ltb, arith}
use Rattle.frame_map.specs.declared.root.Root.{Root}
use Rattle.frame_map.specs.Roots.{of_root, all_roots}
use Rattle.frame_map.proofs.Roots.{of_root_at, roots_count, place_passed, place_reached}
use Rattle.frame_map.proofs.root.place_of.Goals as goal

pub loop-place-preserved : goal.loop-place-preserved
loop-place-preserved g c =
    let r = c.index-roots-place.result in
    let count = roots_count c.args.roots.now in
    let read = ap (λ (x : Root g.row.V.Denot). x.worker) c.index-roots-place.is in
    let within : c.loop-place.place < length (all_roots c.args.roots.now) = omega arith in
    (omega arith, place_passed c.args.worker c.loop-place.place (all_roots c.args.roots.now) (of_root r) within (of_root_at c.args.roots.now c.loop-place.place r (omega arith) c.index-roots-place.is) c.loop-place.invariant.1 (lt-ltb r.worker c.args.worker (omega arith)))

pub returns-else-roots-place-clause-place : goal.returns-else-roots-place-clause-place
returns-else-roots-place-clause-place g c =
    let r = c.index-roots-place.result in
    let count = roots_count c.args.roots.now in
    let read = ap (λ (x : Root g.row.V.Denot). x.worker) c.index-roots-place.is in
    let within : c.loop-place.place < length (all_roots c.args.roots.now) = omega arith in
    place_reached c.args.worker c.loop-place.place (all_roots c.args.roots.now) (of_root r) within (of_root_at c.args.roots.now c.loop-place.place r (omega arith) c.index-roots-place.is) c.loop-place.invariant.1 (le-ltb r.worker c.args.worker (omega arith))
