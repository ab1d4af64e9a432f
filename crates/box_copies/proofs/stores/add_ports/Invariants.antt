use Rattle.std.proofs.Common.{◌≡◌, map, take}
use Rattle.box_copies.specs.Renamer.{swapped_name, port_by, with_ports}
use Rattle.box_copies.proofs.stores.add_ports.Given as goal

abbrev pub invariant-loop-port : goal.invariant-loop-port
invariant-loop-port l = l.copy ≡ with_ports l.fn.copy (map (port_by (swapped_name l.names)) (take l.port-index l.ports))
