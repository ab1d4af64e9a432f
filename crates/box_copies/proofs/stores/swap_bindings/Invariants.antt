use Rattle.std.proofs.Common.{◌≡◌, ◌++◌, map, take, drop}
use Rattle.box_copies.specs.Renamer.{swapped_name, binding_by}
use Rattle.box_copies.proofs.stores.swap_bindings.Given as goal

abbrev pub invariant-loop-binding : goal.invariant-loop-binding
invariant-loop-binding l = map (binding_by (swapped_name l.names)) l.fn.bindings ≡ take l.binding-index l.bindings ++ map (binding_by (swapped_name l.names)) (drop l.binding-index l.bindings)
