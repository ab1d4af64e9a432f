use Rattle.std.proofs.lemmas.Result.{on_ok_weaker}
use Rattle.box_tree.specs.Tables.{TableValue, table_of}
use Rattle.box_tree.specs.Edits.{named_shapes, shapes_with}
use Rattle.box_tree.proofs.News.{entry_comes, entry_only, firsts}
use Rattle.box_tree.proofs.table.Table.put_entry.Goals as goal

pub returns-clause-put : goal.returns-clause-put
returns-clause-put g c =
    let t : TableValue = c.args.self.now in
    on_ok_weaker c.put_box.result (entry_comes t c.put_goals.new.self c.put_box.new.self c.args.name c.args.entry
    (shapes_with c.args.name c.args.number (named_shapes g.T.IntoHeld.held t.program.templates.nodes c.args.goals.items) (table_of t)) c.in_ok-put_goals.ensures.put) c.put_box.ensures.put

pub returns-clause-only : goal.returns-clause-only
returns-clause-only g c = entry_only c.args.self.now c.put_goals.new.self c.put_box.new.self c.args.name (firsts c.args.goals.items) c.in_ok-put_goals.ensures.only c.put_box.ensures.only
