use Rattle.box_tree.proofs.Numbers.{keys_more}
use Rattle.std.proofs.lemmas.List.{take_all}
use Rattle.std.proofs.Common.{ap, ◌∙◌}
use Rattle.box_tree.proofs.News.{firsts}
use Rattle.box_tree.proofs.named.goal_set.Goals as goal

pub loop-name-preserved : goal.loop-name-preserved
loop-name-preserved g c = keys_more c.args.goals.now c.loop-name.name-index c.loop-name-item.result c.loop-name.names.keys c.insert.new.self.keys c.loop-name-item.is c.in_ok-insert.ensures.keys c.loop-name.invariant c.loop-name-test.true c.requires

pub returns : goal.returns
returns g c = c.loop-name.invariant ∙ ap firsts (take_all c.loop-name.name-index c.args.goals.now c.loop-name-test.false)
