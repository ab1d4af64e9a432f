use Rattle.std.proofs.Common.{None, sym, ap, ◌∙◌, subst}
use Rattle.akl_terms.specs.declared.name.Place.{Place}
use Rattle.wake_lists.specs.PlaceMaps.{value_at, FindsAt}
use Rattle.wake_lists.proofs.ValuesAt.{goal_changed, box_changed}
use Rattle.wake_lists.proofs.place_map.PlaceMap.remove.Goals as goal

pub returns-in-Goal-clause-gone : goal.returns-in-Goal-clause-gone
returns-in-Goal-clause-gone g c =
    subst (λ (p : Place). FindsAt c.args.self.now (record c.args.self.now { goals = c.remove.new.self }) p None) (sym c.in-Goal.is)
    (goal_changed c.args.self.now c.in-Goal.name c.remove.new.self None c.remove.ensures.gone.finds)

pub returns-in-Box-clause-gone : goal.returns-in-Box-clause-gone
returns-in-Box-clause-gone g c =
    subst (λ (p : Place). FindsAt c.args.self.now (record c.args.self.now { boxes = c.remove-in-Box.new.self }) p None) (sym c.in-Box.is)
    (box_changed c.args.self.now c.in-Box.name c.remove-in-Box.new.self None c.remove-in-Box.ensures.gone.finds)

pub returns-in-Goal-clause-was : goal.returns-in-Goal-clause-was
returns-in-Goal-clause-was g c = c.remove.ensures.was ∙ ap (value_at c.args.self.now) (sym c.in-Goal.is)

pub returns-in-Box-clause-was : goal.returns-in-Box-clause-was
returns-in-Box-clause-was g c = c.remove-in-Box.ensures.was ∙ ap (value_at c.args.self.now) (sym c.in-Box.is)
