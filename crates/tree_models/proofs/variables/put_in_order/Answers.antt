use Rattle.tree_models.proofs.VariableLists.{put_once}
use Rattle.tree_models.proofs.variables.put_in_order.Goals as goal

pub returns : goal.returns
returns c = put_once c.args.list.now.items c.sort_unstable.new.self.items c.dedup.new.self.items c.sort_unstable.ensures.permutation c.sort_unstable.ensures.sorted c.dedup.ensures.filtered
