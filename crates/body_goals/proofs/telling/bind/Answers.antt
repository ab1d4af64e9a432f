use Rattle.std.proofs.Common.{rules, refl}
use Rattle.body_goals.proofs.Taking.{part_takes}
use Rattle.body_goals.proofs.telling.bind.Goals as goal

pub returns-in_ok-push-3-clause-part : goal.returns-in_ok-push-3-clause-part
returns-in_ok-push-3-clause-part c = λ own. part_takes own c.args.told.now.part c.push.new.self.items c.args.variable c.args.term c.in_ok-push.ensures.items

pub returns-in_default : goal.returns-in_default
returns-in_default c = record {
  part = λ own. part_takes own c.args.told.now.part c.push.new.self.items c.args.variable c.args.term c.in_ok-push.ensures.items;
  bound = search rules;
  solved = refl;
  frames = refl;
}
