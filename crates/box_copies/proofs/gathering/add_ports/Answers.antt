use Rattle.akl_terms.specs.declared.name.Name.{Name}
use Rattle.akl_terms.specs.declared.term.Term.{Term}
use Rattle.box_copies.proofs.Sets.{listed_none, listed_next, listed_all}
use Rattle.box_copies.proofs.gathering.add_ports.Goals as goal

pub loop-port-init : goal.loop-port-init
loop-port-init c = listed_none (λ (p : Name × Term). p.0) c.args.names.now.items c.args.ports.now

pub loop-port-preserved : goal.loop-port-preserved
loop-port-preserved c = listed_next (λ (p : Name × Term). p.0) c.args.names.now.items c.args.ports.now c.loop-port.names.items c.push.new.self.items c.loop-port.port-index _ c.loop-port-test.true c.loop-port.invariant c.in_ok-push.ensures.items

pub returns : goal.returns
returns c = listed_all (λ (p : Name × Term). p.0) c.args.names.now.items c.args.ports.now c.loop-port.names.items c.loop-port.port-index c.loop-port-test.false c.loop-port.invariant
