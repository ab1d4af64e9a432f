use Rattle.box_copies.specs.Renamer.{swapped_name}
use Rattle.box_copies.proofs.Loops.{ports_next}
use Rattle.box_copies.proofs.stores.add_ports.Goals as goal

pub loop-port-preserved : goal.loop-port-preserved
loop-port-preserved c = ports_next (swapped_name c.args.names.now) c.args.copy.now c.loop-port.copy c.set_port.new.self c.args.ports.now c.loop-port.port-index _ (c.swapped.result, c.swapped_term.result) c.loop-port-test.true c.loop-port.invariant
    (λ i. (c.swapped.ensures i, c.swapped_term.ensures i)) c.in_ok-set_port.ensures.set
