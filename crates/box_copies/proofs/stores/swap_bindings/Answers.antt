use Rattle.std.proofs.Common.{◌≡◌, ◌<◌, length, map, arith}
use Rattle.box_copies.specs.Renamer.{swapped_name, binding_by}
use Rattle.box_copies.proofs.Loops.{changed_next, changed_all}
use Rattle.box_copies.proofs.stores.swap_bindings.Goals as goal

pub loop-binding-preserved : goal.loop-binding-preserved
loop-binding-preserved c =
    let within : c.loop-binding.binding-index < length c.loop-binding.bindings = omega (arith, c.loop-binding-test.true) in
    changed_next (binding_by (swapped_name c.args.names.now)) (map (binding_by (swapped_name c.args.names.now)) c.args.bindings.now) c.loop-binding.bindings c.loop-binding.binding-index _ _ within c.swapped_binding.ensures c.loop-binding.invariant

pub returns : goal.returns
returns c = changed_all (binding_by (swapped_name c.args.names.now)) (map (binding_by (swapped_name c.args.names.now)) c.args.bindings.now) c.loop-binding.bindings c.loop-binding.binding-index
    (omega (arith, c.loop-binding-test.false)) c.loop-binding.invariant
