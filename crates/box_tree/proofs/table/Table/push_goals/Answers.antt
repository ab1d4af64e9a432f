use Rattle.std.proofs.Common.{◌++◌, List, map, get_or, refl, ap, ◌∙◌}
use Rattle.akl_terms.specs.declared.name.Name.{Name}
use Rattle.akl_terms.specs.declared.name.Place.{Place}
use Rattle.box_tree.specs.declared.entries.GoalEntry.{GoalEntry}
use Rattle.box_tree.specs.Tables.{TableValue}
use Rattle.box_tree.proofs.Begins.{keys_places}
use Rattle.box_tree.proofs.Gathered.{gathers, gathered}
use Rattle.box_tree.proofs.table.Table.push_goals.Goals as goal

pub loop-name-preserved : goal.loop-name-preserved
loop-name-preserved c =
    let first : Name = record { worker = 0; number = 0 } in
    gathers Place.Goal c.args.places.now.items c.as_slice-name-items.result.now c.loop-name.name-index c.loop-name.places.items c.loop-name.invariant first (get_or c.as_slice-name-items.result.now c.loop-name.name-index first) c.push.new.self.items c.loop-name-test.true refl c.in_ok-push.ensures.items

pub returns : goal.returns
returns c =
    gathered Place.Goal c.args.places.now.items c.as_slice-name-items.result.now c.loop-name.name-index c.loop-name.places.items c.loop-name.invariant c.loop-name-test.false
    ∙ ap (λ (ns : List Name). c.args.places.now.items ++ map Place.Goal ns) (c.as_slice-name-items.ensures.value ∙ c.in_ok-push_names.ensures ∙ ap (λ (ns : List Name). ns ++ map (λ (e : Name × GoalEntry). e.0) c.self.inside.goals) c.new-names.ensures.items)
    ∙ ap (λ (xs : List Place). c.args.places.now.items ++ xs) (keys_places Place.Goal c.self.inside.goals)
    ∙ ap (λ (t : TableValue). c.args.places.now.items ++ map (λ (e : Name × GoalEntry). Place.Goal e.0) t.goals) c.self.view_is
