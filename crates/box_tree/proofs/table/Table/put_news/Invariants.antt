use Rattle.std.proofs.Common.{vec_len}
use Rattle.box_tree.proofs.News.{NewsCome}
use Rattle.box_tree.proofs.table.Table.put_news.Given as goal

abbrev pub invariant-loop-new : goal.invariant-loop-new
invariant-loop-new l = NewsCome l.fn.self l.self l.holder l.at l.number l.fn.news.items l.left.items

abbrev pub decreases-loop-new : goal.decreases-loop-new
decreases-loop-new l = vec_len l.left
