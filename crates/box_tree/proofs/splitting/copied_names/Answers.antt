use Rattle.std.proofs.Common.{◌+◌, List, map, take, ap, ◌∙◌}
use Rattle.std.proofs.lemmas.List.{take_all}
use Rattle.table_laws.specs.Writes.{names_copied}
use Rattle.box_tree.specs.declared.step.BoxCopy.{BoxCopy}
use Rattle.box_tree.specs.Tables.{box_copy}
use Rattle.box_tree.proofs.Gathered.{taken}
use Rattle.box_tree.proofs.Copied.{copied_more}
use Rattle.box_tree.proofs.News.{firsts}
use Rattle.box_tree.proofs.splitting.copied_names.Goals as goal

pub loop-copy-preserved : goal.loop-copy-preserved
loop-copy-preserved c = λ nodes. copied_more nodes (take c.loop-copy.copy-index c.args.copies.now) (take (c.loop-copy.copy-index + 1) c.args.copies.now) c.copy-item.result c.loop-copy.names.items c.push.new.self.items c.push_names.new.names.items (firsts c.as_slice.result.now)
    (c.loop-copy.invariant nodes) c.in_ok-push.ensures c.in_ok-push_names.ensures (ap firsts c.as_slice.ensures.value)
    (taken c.args.copies.now c.loop-copy.copy-index c.copy-item.result c.copy-item.result c.loop-copy-test.true c.copy-item.is)

pub returns : goal.returns
returns c = λ nodes. c.loop-copy.invariant nodes ∙ ap (λ (ks : List BoxCopy). names_copied (map (box_copy nodes) ks)) (take_all c.loop-copy.copy-index c.args.copies.now c.loop-copy-test.false)
