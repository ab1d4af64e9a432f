use Rattle.std.proofs.Common.{subst}
use Rattle.akl_model.specs.declared.label.Label.{Label}
use Rattle.box_tree.specs.declared.step.Step.{Step}
use Rattle.opened_places.specs.Exact.{AreChanged}
use Rattle.scheduler.proofs.effects.opened_with.Goals as goal

pub returns : goal.returns
returns c = record {
  changed = c.in_ok-places.places.items;
  are_changed = subst (λ (l : Label). AreChanged c.args.table.now l c.args.plan.now.step c.in_ok-places.places.items) c.label.ensures
      (subst (λ (s : Step). AreChanged c.args.table.now c.label.result s c.in_ok-places.places.items) c.step.ensures c.in_ok-places.ensures);
  adds = c.in_ok-push_those.ensures;
}
