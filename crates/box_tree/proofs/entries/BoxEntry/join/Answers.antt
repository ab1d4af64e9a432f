use Rattle.std.proofs.Common.{◌≡◌, List, ap, ◌∙◌}
use Rattle.akl_terms.specs.declared.name.Name.{Name}
use Rattle.box_tree.specs.declared.entries.BoxEntry.{BoxEntry}
use Rattle.box_tree.specs.Edits.{less_names}
use Rattle.box_tree.proofs.Naming.{undone_names}
use Rattle.box_tree.proofs.entries.BoxEntry.join.Goals as goal

pub returns-in_default-clause-unchanged : goal.returns-in_default-clause-unchanged
returns-in_default-clause-unchanged c =
    let old : BoxEntry = c.args.self.now in
    let names : List Name = c.args.names.now in
    let is = c.in_default.ensures.unchanged in
    let same : c.drop_names.new.set.keys ≡ old.goals.keys =
    c.drop_names.ensures ∙ ap (λ (e : BoxEntry). less_names names e.goals.keys) is ∙ ap (less_names names) c.in_ok-add_names.ensures.added ∙ undone_names names old.goals.keys c.requires in
    ap (λ (e : BoxEntry). record e { goals = c.drop_names.new.set }) is ∙ (λ i. record old { goals = record { keys = same i } })
