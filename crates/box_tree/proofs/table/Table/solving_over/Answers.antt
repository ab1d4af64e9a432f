use Rattle.std.proofs.Common.{◌≡◌, Option, Some, sym, ap, subst, ◌∙◌}
use Rattle.std.specs.Prelude.{option_map}
use Rattle.std.specs.Map.{lookup}
use Rattle.akl_terms.specs.declared.name.Name.{Name}
use Rattle.akl_terms.specs.Names.{same_name}
use Rattle.akl_terms.proofs.SameNames.{same_name-equal}
use Rattle.box_tree.specs.declared.entries.BoxEntry.{BoxEntry}
use Rattle.box_tree.specs.Tables.{TableValue, box_row}
use Rattle.box_tree.specs.Paths.{solving_over}
use Rattle.box_tree.proofs.Maps.{found_at}
use Rattle.box_tree.proofs.table.Table.solving_over.Goals as goal

pub returns-then-eq : goal.returns-then-eq
returns-then-eq c =
    let here : lookup (same_name c.args.name) c.args.self.now.boxes ≡ Some c.args.entry.now = subst (λ (n : Name). lookup (same_name n) c.args.self.now.boxes ≡ Some c.args.entry.now) (sym (same_name-equal c.args.name c.args.home (sym c.if-eq.ensures))) c.requires in
    (λ i. (c.in_ok-solved.ensures c.args.self.now.program.templates.nodes i, c.args.entry.now.changed))
    ∙ sym (ap (λ (o : Option BoxEntry). solving_over (option_map (box_row c.args.self.now.program.templates.nodes) o) c.args.latest) here)

pub returns : goal.returns
returns c =
    let there : lookup (same_name c.args.name) c.args.self.now.boxes ≡ Some c.in-Some.other.now = found_at c.args.name c.self.inside.boxes c.args.self.now.boxes c.in-Some.other.now (ap (λ (v : TableValue). v.boxes) c.self.view_is) c.in-Some.ensures in
    (λ i. (c.in_ok-solved-2.ensures c.args.self.now.program.templates.nodes i, c.in-Some.other.now.changed))
    ∙ sym (ap (λ (o : Option BoxEntry). solving_over (option_map (box_row c.args.self.now.program.templates.nodes) o) c.args.latest) there)
