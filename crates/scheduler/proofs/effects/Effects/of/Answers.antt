use Rattle.std.proofs.Common.{◌≡◌, true, sym, ap, ◌∙◌}
use Rattle.std.specs.Prelude.{List, Option, is_some, option_map}
use Rattle.akl_terms.specs.declared.term.Node.{Node}
use Rattle.local_store.specs.Stored.{Stored}
use Rattle.akl_model.specs.declared.label.Label.{Label}
use Rattle.box_tree.specs.declared.step.Step.{Step}
use Rattle.box_tree.specs.Tables.{table_of, step_of, step_in, store_at}
use Rattle.box_tree.specs.Views.{is_there}
use Rattle.opened_places.specs.declared.around.Around.{Around}
use Rattle.scheduler.specs.Listing.{frames_made}
use Rattle.scheduler.proofs.CoreTables.{home_there, home_store}
use Rattle.scheduler.proofs.effects.Effects.of.Goals as goal

pub opened_others-requires-clause-there : goal.opened_others-requires-clause-there
opened_others-requires-clause-there c =
    let there : is_there (table_of c.args.table.now) c.label.result.place ≡ true = sym c.around_of.ensures.there ∙ ap (λ (o : Option Around). is_some o) c.in-Some.is in
    home_there c.args.table.now c.requires.0 c.requires.1 c.label.result c.in-Some.around c.in-Some.ensures.around there

pub opened_others-requires-clause-added : goal.opened_others-requires-clause-added
opened_others-requires-clause-added c =
    let T = table_of c.args.table.now in
    let nodes : List Node = c.args.table.now.program.templates.nodes in
    let stored : store_at T c.label.result.place ≡ c.in-Some-store_of.store.now =
    home_store T c.label.result c.in-Some.around c.in-Some-store_of.store.now c.in-Some.ensures.around (sym c.store_of.ensures ∙ ap (λ o. option_map (λ s. s.now) o) c.in-Some-store_of.is) in
    c.added_by-added.ensures nodes
    ∙ ap (λ (s : Stored). frames_made (step_of nodes s c.step.result.now)) (sym stored)
    ∙ ap (λ (l : Label). frames_made (step_in c.args.table.now l c.step.result.now)) c.label.ensures
    ∙ ap (λ (s : Step). frames_made (step_in c.args.table.now c.args.plan.now.label s)) c.step.ensures
