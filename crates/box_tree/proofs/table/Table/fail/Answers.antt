use Rattle.std.proofs.Common.{sym, subst}
use Rattle.table_laws.specs.Writes.{Fails}
use Rattle.box_tree.specs.Tables.{TableValue, table_of}
use Rattle.box_tree.proofs.Removed.{fallen}
use Rattle.box_tree.proofs.table.Table.fail.Goals as goal

pub returns-clause-fails : goal.returns-clause-fails
returns-clause-fails c = subst (λ (v : TableValue). Fails (table_of c.args.self.now) (table_of (record v { steps = c.args.number })) c.args.name) (sym c.self.view_is)
    (fallen c.args.self.now c.lose.new.self c.drop_boxes.new.self c.args.name c.args.names.now c.args.number c.holder_of-holder.result c.requires.number c.holder_of-holder.ensures c.lose.ensures c.drop_boxes.ensures c.requires.listed)
