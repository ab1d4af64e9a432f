use Rattle.std.proofs.Common.{◌≡◌, List, map, ap, ◌∙◌, subst}
use Rattle.akl_terms.specs.declared.name.Name.{Name}
use Rattle.table_laws.specs.Writes.{names_copied}
use Rattle.box_tree.specs.declared.step.BoxCopy.{BoxCopy}
use Rattle.box_tree.specs.Tables.{TableValue, box_copy}
use Rattle.box_tree.specs.Edits.{Clears}
use Rattle.box_tree.proofs.Adding.{undone}
use Rattle.box_tree.proofs.Forked.{fresh_boxes, fresh_goals}
use Rattle.box_tree.proofs.table.Table.add_copies.Goals as goal

pub returns-in_default-clause-unchanged : goal.returns-in_default-clause-unchanged
returns-in_default-clause-unchanged c =
    let t : TableValue = c.args.self.now in
    let own : List Name = names_copied (map (box_copy t.program.templates.nodes) c.args.copies.items) in
    let same : c.as_slice-in_default.result.now ≡ own = c.as_slice-in_default.ensures.value ∙ c.in_ok-drawn.ensures t.program.templates.nodes
    ∙ ap (λ (ks : List BoxCopy). names_copied (map (box_copy t.program.templates.nodes) ks)) c.as_slice.ensures.value in
    undone t c.put_copies.new.self c.drop_entries.new.self own c.in_default.ensures.only (subst (Clears c.put_copies.new.self c.drop_entries.new.self) same c.drop_entries.ensures)
    (fresh_boxes t own c.requires.fresh) (fresh_goals t own c.requires.fresh)
