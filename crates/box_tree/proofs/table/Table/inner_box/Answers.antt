use Rattle.std.proofs.Common.{map, refl, ap, ◌∙◌}
use Rattle.std.specs.Prelude.{option_map}
use Rattle.box_tree.specs.Tables.{TableValue, box_row, goal_atom, shown_tree}
use Rattle.box_tree.proofs.Maps.{found_at}
use Rattle.box_tree.proofs.table.Table.inner_box.Goals as goal

pub is_solved_down_to-requires-clause-entry : goal.is_solved_down_to-requires-clause-entry
is_solved_down_to-requires-clause-entry c = found_at c.args.name c.self.inside.boxes c.args.self.now.boxes c.in-Some.entry.now (ap (λ (v : TableValue). v.boxes) c.self.view_is) c.in-Some.ensures

pub returns-clause-row : goal.returns-clause-row
returns-clause-row c =
    let t : TableValue = c.args.self.now in
    let found = found_at c.args.name c.self.inside.boxes t.boxes c.in-Some.entry.now (ap (λ (v : TableValue). v.boxes) c.self.view_is) c.in-Some.ensures in
    record {
      row = box_row t.program.templates.nodes c.in-Some.entry.now;
      there = ap (option_map (box_row t.program.templates.nodes)) found;
      holder = refl;
      store = c.in_ok-store.ensures;
      solved = c.in_ok-solved.ensures;
      goals = c.in_ok-goals.ensures.names;
      held = c.in_ok-goals.ensures.held;
      body = ap (map (goal_atom t.program.templates.nodes)) (c.in_ok-body.ensures.items ∙ c.as_slice.ensures.value);
      collected = refl;
      shown = ap (map (shown_tree t.program.templates.nodes)) (c.in_ok-shown.ensures ∙ c.as_slice-2.ensures.value);
    }
