use Rattle.std.proofs.Common.{ℕ, ◌++◌, List, ◌∷◌, [], get_or, ap, ◌∙◌}
use Rattle.std.proofs.lemmas.List.{take_more}
use Rattle.akl_terms.specs.declared.name.Name.{Name}
use Rattle.akl_terms.specs.declared.name.Place.{Place}
use Rattle.box_tree.specs.Tables.{table_of}
use Rattle.opened_places.specs.Gone.{goals_named}
use Rattle.opened_places.proofs.PushedPlaces.{box_next}
use Rattle.opened_places.proofs.gone.push_boxes.Goals as goal

pub loop-name-preserved : goal.loop-name-preserved
loop-name-preserved c =
    let boxes : List Name = c.args.boxes.now in
    let at : ℕ = c.loop-name.name-index in
    let n : Name = get_or boxes at (record { worker = 0; number = 0 }) in
    let old : List Place = c.loop-name.places.items in
    box_next (table_of c.args.table.now) boxes at n c.args.places.now.items old c.push_goals.new.places.items c.in_ok-goals.goals.items (take_more boxes at (record { worker = 0; number = 0 }) c.loop-name-test.true) c.loop-name.invariant c.in_ok-goals.ensures
    (c.in_ok-push_goals.ensures ∙ ap (λ (ps : List Place). ps ++ goals_named c.as_slice.result.now) c.in_ok-push.ensures ∙ ap (λ (gs : List Name). (old ++ Place.Box n ∷ []) ++ goals_named gs) c.as_slice.ensures.value)
