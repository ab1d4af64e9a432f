use Rattle.std.proofs.Common.{[]}
use Rattle.box_tree.specs.declared.step.NewBox.{NewBox}
use Rattle.box_tree.proofs.Gathered.{gathers, gathered}
use Rattle.box_tree.proofs.forking.box_names.Goals as goal

pub loop-new-preserved : goal.loop-new-preserved
loop-new-preserved c = gathers (λ (n : NewBox). n.name) [] c.args.news.now c.loop-new.new-index c.loop-new.names.items c.loop-new.invariant c.new-item.result c.new-item.result c.push.new.self.items c.loop-new-test.true c.new-item.is c.in_ok-push.ensures.items

pub returns : goal.returns
returns c = gathered (λ (n : NewBox). n.name) [] c.args.news.now c.loop-new.new-index c.loop-new.names.items c.loop-new.invariant c.loop-new-test.false
