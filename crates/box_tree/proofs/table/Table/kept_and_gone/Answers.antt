use Rattle.std.proofs.Common.{List, ap, ◌∙◌, subst}
use Rattle.akl_terms.specs.declared.name.Name.{Name}
use Rattle.table_laws.specs.Walks.{ListsEach}
use Rattle.table_laws.specs.Writes.{names_kept, names_cut}
use Rattle.box_tree.specs.Tables.{table_of, op_held}
use Rattle.box_tree.proofs.KeptAndCut.{kept_by_any, cut_by_any}
use Rattle.box_tree.proofs.table.Table.kept_and_gone.Goals as goal

pub returns-clause-kept : goal.returns-clause-kept
returns-clause-kept c = c.in_ok-kept.ensures.kept ∙ kept_by_any c.args.self.now.program.templates.nodes c.args.op c.args.name c.alternatives_of.result.now ∙ ap (names_kept (op_held c.args.self.now.program.templates.nodes c.args.op) c.args.name) c.alternatives_of.ensures

pub returns-clause-gone : goal.returns-clause-gone
returns-clause-gone c = subst (λ (ns : List Name). ListsEach (table_of c.args.self.now) ns c.in_ok-gone.gone.items)
    (c.as_slice.ensures.value ∙ c.in_ok-kept.ensures.gone ∙ cut_by_any c.args.self.now.program.templates.nodes c.args.op c.args.name c.alternatives_of.result.now ∙ ap (names_cut (op_held c.args.self.now.program.templates.nodes c.args.op) c.args.name) c.alternatives_of.ensures) c.in_ok-gone.ensures
