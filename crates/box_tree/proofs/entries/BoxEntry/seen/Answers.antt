use Rattle.std.proofs.Common.{◌≡◌, Option, ap, sym, ◌∙◌, rules}
use Rattle.std.specs.Prelude.{option_map}
use Rattle.table_laws.specs.Rows.{BoxRow, store_in}
use Rattle.box_tree.specs.Tables.{box_row, goals_in, is_empty}
use Rattle.box_tree.specs.Paths.{known_with, collected_in}
use Rattle.box_tree.proofs.entries.BoxEntry.seen.Goals as goal

pub returns : goal.returns
returns c = λ t there.
    let row = ap (option_map (box_row t.program.templates.nodes)) there in
    let empty : c.is_empty.result ≡ is_empty c.args.self.now.goals.keys = search rules in
    let solved = empty ∙ sym (ap (λ (o : Option BoxRow). is_empty (goals_in o)) row) in
    let store = c.in_ok-store.ensures ∙ sym (ap store_in row) in
    let known = c.in_ok-known.ensures t.program.templates.nodes ∙ sym (ap (λ (o : Option BoxRow). known_with o c.args.known c.args.latest c.args.whole) row) in
    λ i. record { name = c.args.name; solved = solved i; store = store i; known = known i; collected = sym (ap collected_in there) i }
