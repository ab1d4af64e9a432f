use Rattle.std.proofs.Common.{◌-◌, ◌∙◌, List, length, take, ap}
use Rattle.akl_terms.specs.declared.name.Name.{Name}
use Rattle.split_plan.proofs.SeenSplit.{around_is, seen_inside}
use Rattle.idle_plan.proofs.Joined.{box_idle, depth_enough}
use Rattle.idle_plan.proofs.idling.idle_box.Goals as goal

pub waits_inside-requires-clause-depth : goal.waits_inside-requires-clause-depth
waits_inside-requires-clause-depth c = rw (c.chain-chain.ensures.stores, c.saturating_sub-depth.ensures, c.path-path.ensures) (depth_enough c.args.view.now c.chain-chain.ensures.seen)

pub waits_inside-requires-clause-inside : goal.waits_inside-requires-clause-inside
waits_inside-requires-clause-inside c = seen_inside c.args.view.now c.chain-chain.ensures.seen c.requires.inside.name c.requires.inside.place c.args.inside.now c.requires.inside.inside c.args.program.now c.requires.program
    c.saturating_sub-depth.result (c.saturating_sub-depth.ensures ∙ ap (λ (ns : List Name). length ns - 1) c.path-path.ensures)

pub waits_of_boxes_around-requires-clause-count : goal.waits_of_boxes_around-requires-clause-count
waits_of_boxes_around-requires-clause-count c = rw (c.saturating_sub-depth.ensures, c.path-path.ensures) (depth_enough c.args.view.now c.chain-chain.ensures.seen)

pub new-requires : goal.new-requires
new-requires c =
    let d = c.saturating_sub-depth.ensures ∙ ap (λ (ns : List Name). length ns - 1) c.path-path.ensures in
    let around = rw c.requires.program at c.in_ok-on.ensures in
    let seen = seen_inside c.args.view.now c.chain-chain.ensures.seen c.requires.inside.name c.requires.inside.place c.args.inside.now c.requires.inside.inside c.args.program.now c.requires.program c.saturating_sub-depth.result d in
    let own = rw (c.requires.program, c.chain-chain.ensures.stores) at (c.in_ok-own.ensures seen) in
    rw (c.in_ok-extend_from_slice.ensures.items, c.as_slice.ensures.value, c.in_ok-reads.ensures, c.as_slice-2.ensures.value, d, c.path-path.ensures)
    (box_idle c.args.view.now c.chain-chain.ensures.seen c.requires.inside.name c.requires.inside.place c.args.inside.now c.requires.inside.inside c.requires.unready c.saturating_sub-depth.result d
    (take (length c.args.view.now.path - 1) c.args.view.now.path) (around_is c.args.view.now c.chain-chain.ensures.seen) c.in_ok-on.on.items c.in_ok-own.own.items around own)
