use Rattle.std.proofs.Common.{ap, ◌∙◌, sym, Option, ◌++◌, ◌∷◌, []}
use Rattle.std.specs.Prelude.{option_map}
use Rattle.local_store.specs.Stored.{Stored}
use Rattle.table_laws.specs.Rows.{BoxRow, store_in}
use Rattle.table_laws.specs.Writes.{holder_in_row}
use Rattle.box_tree.specs.Tables.{TableValue, table_of, box_row}
use Rattle.box_tree.specs.Paths.{home_at, solving_in}
use Rattle.box_tree.proofs.Maps.{found_at}
use Rattle.box_tree.proofs.way.Way.pass.Goals as goal

pub returns : goal.returns
returns c =
    let t : TableValue = c.args.table.now in
    let row = ap (option_map (box_row t.program.templates.nodes)) (found_at c.args.name c.table.inside.boxes t.boxes c.in-Some.entry.now (ap (λ (v : TableValue). v.boxes) c.table.view_is) c.in-Some.ensures) in
    record {
      path = c.in_ok-push.ensures;
      stores = c.in_ok-push-2.ensures ∙ ap (λ (s : Stored). c.args.self.now.stores.items ++ s ∷ []) (c.in_ok-store.ensures ∙ sym (ap store_in row));
      solving = c.solving-self.ensures t.program.templates.nodes ∙ sym (ap solving_in row);
      around = c.home_around.ensures ∙ sym (ap (λ (o : Option BoxRow). home_at (table_of t) (holder_in_row o)) row);
    }
