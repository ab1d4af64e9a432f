use Rattle.std.proofs.Common.{◌++◌, List, sym, ap, subst}
use Rattle.akl_terms.specs.declared.name.Name.{Name}
use Rattle.box_tree.specs.declared.step.Step.{Step}
use Rattle.box_tree.specs.Tables.{step_of}
use Rattle.opened_places.specs.Placed.{goals_placed, all_but_last}
use Rattle.opened_places.specs.Copies.{CopyPart, AddsCopies}
use Rattle.opened_places.specs.Listed.{goal_goes, box_parts, AreListed}
use Rattle.opened_places.proofs.PushedPlaces.{names_same, parts_same}
use Rattle.opened_places.proofs.places.listed.Goals as goal

pub returns-in_ok-push_goals-in-Join : goal.returns-in_ok-push_goals-in-Join
returns-in_ok-push_goals-in-Join c = λ nodes t. subst (λ (s : Step). AreListed c.args.place c.args.around c.args.path.now (step_of nodes t s) c.push_goals.new.places.items) (sym c.in-Join.is)
    (rw (c.in_ok-push_goals-in-Join.ensures, c.in_ok-places-in-Join.ensures, c.as_slice-in-Join.ensures.value) (ap (λ (ns : List Name). goal_goes c.args.around c.args.path.now ++ goals_placed c.args.path.now ns) (names_same nodes c.in-Join.goals.items)))

pub returns-in_ok-push_copies-in-Split : goal.returns-in_ok-push_copies-in-Split
returns-in_ok-push_copies-in-Split c = λ nodes t. subst (λ (s : Step). AreListed c.args.place c.args.around c.args.path.now (step_of nodes t s) c.push_copies.new.places.items) (sym c.in-Split.is)
    (subst (λ (ks : List CopyPart). AddsCopies (all_but_last c.args.path.now) ks ks (box_parts c.args.around c.args.path.now) c.push_copies.new.places.items) (parts_same nodes c.in-Split.copies.items)
    (rw (sym c.in_ok-places-in-Split.ensures, sym c.as_slice-in-Split.ensures.value, sym c.all_but_last-in-Split.ensures) c.in_ok-push_copies-in-Split.ensures))
