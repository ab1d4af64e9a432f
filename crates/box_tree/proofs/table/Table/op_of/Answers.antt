use Rattle.std.proofs.Common.{Some, sym, ap, ◌∙◌}
use Rattle.box_tree.specs.declared.view.Sight.{Sight}
use Rattle.box_tree.proofs.table.Table.op_of.Goals as goal

pub returns : goal.returns
returns c = let w = c.in-Some-default-Choice in (w.field-0-0, sym w.ensures ∙ ap (λ (s : Sight). Some (w.field-0-0, s)) w.field-0-1-is)
