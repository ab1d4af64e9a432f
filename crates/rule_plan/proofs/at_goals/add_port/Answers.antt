use Rattle.std.proofs.Common.{refl}
use Rattle.rule_plan.proofs.Added.{port_added}
use Rattle.rule_plan.proofs.at_goals.add_port.Goals as goal

pub returns : goal.returns
returns c s = port_added s c.args.part.now (record { frames = c.args.part.now.frames; ports = c.push.new.self; bindings = c.args.part.now.bindings }) c.args.port c.args.tail c.requires refl refl c.in_ok-push.ensures.items
