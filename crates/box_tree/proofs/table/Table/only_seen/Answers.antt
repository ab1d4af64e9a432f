use Rattle.std.proofs.Common.{◌∙◌, sym, ap, map, Option, ◌∷◌, []}
use Rattle.std.specs.Prelude.{option_map}
use Rattle.box_tree.specs.declared.entries.BoxEntry.{BoxEntry}
use Rattle.box_tree.specs.declared.view.Alternative.{Alternative}
use Rattle.box_tree.specs.Tables.{TableValue, box_row, goal_atom}
use Rattle.box_tree.specs.Paths.{body_in}
use Rattle.box_tree.proofs.Maps.{found_at}
use Rattle.box_tree.proofs.table.Table.only_seen.Goals as goal

pub returns-clause-alternatives : goal.returns-clause-alternatives
returns-clause-alternatives c =
    c.in_ok-alternatives.ensures ∙ ap (λ (a : Alternative). a ∷ [])
    (c.in_ok-alternative.ensures c.args.self.now (found_at c.args.name c.self.inside.boxes c.args.self.now.boxes c.in-Some.entry.now (ap (λ (v : TableValue). v.boxes) c.self.view_is) c.in-Some.ensures))

pub returns-clause-body : goal.returns-clause-body
returns-clause-body c =
    ap (map (goal_atom c.args.self.now.program.templates.nodes)) (c.in_ok-body.ensures.items ∙ c.as_slice.ensures.value)
    ∙ sym (ap (λ (o : Option BoxEntry). body_in (option_map (box_row c.args.self.now.program.templates.nodes) o))
    (found_at c.args.name c.self.inside.boxes c.args.self.now.boxes c.in-Some.entry.now (ap (λ (v : TableValue). v.boxes) c.self.view_is) c.in-Some.ensures))
