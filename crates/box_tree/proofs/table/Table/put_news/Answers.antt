use Rattle.box_tree.proofs.News.{new_ordered, news_step, news_only}
use Rattle.box_tree.proofs.table.Table.put_news.Goals as goal

pub put_new-requires : goal.put_new-requires
put_new-requires c = new_ordered c.args.self.now c.loop-new.self c.loop-new.self c.args.holder c.args.at c.args.number c.args.news.items c.loop-new.left.items c.pop.new.self.items c.in-Some.new c.loop-new.invariant c.in-Some.ensures.items

pub loop-new-preserved : goal.loop-new-preserved
loop-new-preserved c = news_step c.args.self.now c.loop-new.self c.put_new.new.self c.args.holder c.args.at c.args.number c.args.news.items c.loop-new.left.items c.pop.new.self.items c.in-Some.new c.loop-new.invariant c.in-Some.ensures.items
    c.in_ok-put_new.ensures.put c.in_ok-put_new.ensures.only

pub returns-in_err-put_new-clause-only : goal.returns-in_err-put_new-clause-only
returns-in_err-put_new-clause-only c = news_only c.args.self.now c.loop-new.self c.put_new.new.self c.args.holder c.args.at c.args.number c.args.news.items c.loop-new.left.items c.pop.new.self.items c.in-Some.new c.loop-new.invariant c.in-Some.ensures.items
    c.in_err-put_new.ensures.only
