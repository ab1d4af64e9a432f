use Rattle.std.proofs.Common.{sym, subst}
use Rattle.box_tree.proofs.Looks.{Climb, climb_step, climb_end}
use Rattle.box_tree.proofs.table.Table.path_to.Goals as goal

pub loop-home-preserved : goal.loop-home-preserved
loop-home-preserved c = subst (Climb c.args.self.now c.args.name c.in-Some.home) (sym c.in_ok-push.ensures) (climb_step c.args.self.now c.args.name c.loop-home.at c.in-Some.home c.loop-home.path.items c.loop-home.invariant c.in-Some.ensures).0

pub returns : goal.returns
returns c = climb_end c.args.self.now c.args.name c.loop-home.at c.loop-home.path.items c.reverse.new.self.items c.loop-home.invariant c.in_default.ensures c.reverse.ensures
