use Rattle.std.proofs.Common.{◌++◌, map, ap, ◌∙◌, List}
use Rattle.akl_terms.specs.declared.name.Name.{Name}
use Rattle.akl_terms.specs.declared.name.Place.{Place}
use Rattle.box_tree.specs.declared.entries.BoxEntry.{BoxEntry}
use Rattle.box_tree.specs.declared.entries.GoalEntry.{GoalEntry}
use Rattle.box_tree.proofs.table.Table.places.Goals as goal

pub returns : goal.returns
returns c = c.in_ok-push_goals.ensures ∙ ap (λ (xs : List Place). xs ++ map (λ (e : Name × GoalEntry). Place.Goal e.0) c.args.self.now.goals)
    (c.in_ok-push_boxes.ensures ∙ ap (λ (xs : List Place). xs ++ map (λ (e : Name × BoxEntry). Place.Box e.0) c.args.self.now.boxes) c.new-places.ensures.items)
