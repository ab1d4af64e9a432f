use Rattle.std.proofs.Common.{◌+◌, List, map, take, ap, ◌∙◌}
use Rattle.std.proofs.lemmas.List.{take_all}
use Rattle.table_laws.specs.Writes.{names_drawn}
use Rattle.box_tree.specs.declared.step.NewBox.{NewBox}
use Rattle.box_tree.specs.Tables.{new_box}
use Rattle.box_tree.proofs.Gathered.{taken}
use Rattle.box_tree.proofs.News.{firsts, drawn_more}
use Rattle.box_tree.proofs.forking.drawn_names.Goals as goal

pub loop-new-preserved : goal.loop-new-preserved
loop-new-preserved c = λ nodes. drawn_more nodes (take c.loop-new.new-index c.args.news.now) (take (c.loop-new.new-index + 1) c.args.news.now) c.new-item.result c.loop-new.names.items c.push.new.self.items c.push_names.new.names.items (firsts c.as_slice.result.now)
    (c.loop-new.invariant nodes) c.in_ok-push.ensures c.in_ok-push_names.ensures (ap firsts c.as_slice.ensures.value)
    (taken c.args.news.now c.loop-new.new-index c.new-item.result c.new-item.result c.loop-new-test.true c.new-item.is)

pub returns : goal.returns
returns c = λ nodes. c.loop-new.invariant nodes ∙ ap (λ (ns : List NewBox). names_drawn (map (new_box nodes) ns)) (take_all c.loop-new.new-index c.args.news.now c.loop-new-test.false)
