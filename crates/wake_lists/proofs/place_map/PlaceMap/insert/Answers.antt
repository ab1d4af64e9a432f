use Rattle.std.proofs.Common.{Some, sym, subst}
use Rattle.std.proofs.lemmas.Result.{on_ok_weaker}
use Rattle.akl_terms.specs.declared.name.Place.{Place}
use Rattle.wake_lists.specs.PlaceMaps.{FindsAt}
use Rattle.wake_lists.proofs.ValuesAt.{goal_changed, box_changed}
use Rattle.wake_lists.proofs.place_map.PlaceMap.insert.Goals as goal

pub returns-in-Goal-clause-put : goal.returns-in-Goal-clause-put
returns-in-Goal-clause-put g c =
    on_ok_weaker c.insert.result (λ put. subst (λ (p : Place). FindsAt c.args.self.now (record c.args.self.now { goals = c.insert.new.self }) p (Some c.args.value)) (sym c.in-Goal.is)
    (goal_changed c.args.self.now c.in-Goal.name c.insert.new.self (Some c.args.value) put.finds)) c.insert.ensures.put

pub returns-in-Box-clause-put : goal.returns-in-Box-clause-put
returns-in-Box-clause-put g c =
    on_ok_weaker c.insert-in-Box.result (λ put. subst (λ (p : Place). FindsAt c.args.self.now (record c.args.self.now { boxes = c.insert-in-Box.new.self }) p (Some c.args.value)) (sym c.in-Box.is)
    (box_changed c.args.self.now c.in-Box.name c.insert-in-Box.new.self (Some c.args.value) put.finds)) c.insert-in-Box.ensures.put
