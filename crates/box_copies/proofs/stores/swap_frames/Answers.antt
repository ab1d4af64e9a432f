use Rattle.std.proofs.Common.{◌≡◌, ◌<◌, ◌∙◌, length, drop, map, arith}
use Rattle.std.proofs.lemmas.List.{take_at}
use Rattle.box_copies.specs.Renamer.{swapped_name}
use Rattle.box_copies.proofs.Loops.{changed_next, changed_all}
use Rattle.box_copies.proofs.stores.swap_frames.Goals as goal

pub loop-frame-preserved : goal.loop-frame-preserved
loop-frame-preserved c =
    let within : c.loop-frame.frame-index < length c.loop-frame.frame-items = omega (arith, c.loop-frame-test.true, c.loop-frame.auto.frame-items) in
    changed_next (swapped_name c.args.names.now) (map (swapped_name c.args.names.now) c.args.frames.now.items) c.loop-frame.frame-items c.loop-frame.frame-index _ _ within c.swapped.ensures c.loop-frame.invariant

pub returns : goal.returns
returns c =
    let long : length c.loop-frame.frame-items ≡ c.args.frames.now.len = omega (arith, c.loop-frame.auto.frame-items, c.args.frames.now.ok) in
    take_at c.loop-frame.frame-items (drop (length c.loop-frame.frame-items) c.args.frames.now.items) c.args.frames.now.len long
    ∙ changed_all (swapped_name c.args.names.now) (map (swapped_name c.args.names.now) c.args.frames.now.items) c.loop-frame.frame-items c.loop-frame.frame-index (omega (arith, c.loop-frame-test.false, c.loop-frame.auto.frame-items, c.loop-frame.auto.frame-index-end)) c.loop-frame.invariant
