use Rattle.std.proofs.Common.{refl}
use Rattle.clause_store.proofs.Growing.{each_after}
use Rattle.clause_store.proofs.Turns.{group_start, group_more, group_put}
use Rattle.clause_store.proofs.nodes.put_term.Goals as goal

pub push-requires-clause-group : goal.push-requires-clause-group
push-requires-clause-group c = (let group = group_more (group_start c.args.templates.now) c.in_ok-node.ensures in each_after _ group.each)

pub returns : goal.returns
returns c = group_put (group_more (group_start c.args.templates.now) c.in_ok-node.ensures) c.in_ok-first.ensures.first refl c.in_ok-first.ensures.nodes
