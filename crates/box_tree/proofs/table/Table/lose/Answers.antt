use Rattle.std.proofs.Common.{Option, sym, subst}
use Rattle.akl_terms.specs.declared.name.Name.{Name}
use Rattle.table_laws.specs.Writes.{held_without}
use Rattle.box_tree.specs.Tables.{table_of}
use Rattle.box_tree.specs.Drops.{HasRows}
use Rattle.box_tree.proofs.Removed.{lost}
use Rattle.box_tree.proofs.table.Table.lose.Goals as goal

pub returns : goal.returns
returns c = subst (λ (o : Option Name). HasRows c.args.self.now c.fail_by.new.self (held_without c.args.name o (table_of c.args.self.now))) (sym c.in-Some.is)
    (lost c.args.self.now c.lose_alternative-home.new.self c.fail_by.new.self c.in-Some.goal c.args.name c.args.number c.lose_alternative-home.result c.requires c.lose_alternative-home.ensures.lost c.lose_alternative-home.ensures.home c.fail_by.ensures)
