use Rattle.std.proofs.Common.{subst}
use Rattle.akl_terms.specs.declared.name.Place.{Place}
use Rattle.akl_model.specs.declared.label.Label.{Label}
use Rattle.box_tree.specs.declared.step.Step.{Step}
use Rattle.opened_places.specs.Gone.{AreGone}
use Rattle.box_tree.specs.Shorts.{ShortItems}
use Rattle.scheduler.specs.Once.{AreSameOnce}
use Rattle.scheduler.proofs.ListedOthers.{if_ok, gone_same}
use Rattle.scheduler.proofs.effects.gone_once.Goals as goal

pub returns-clause-gone : goal.returns-clause-gone
returns-clause-gone c =
    if_ok c.each_once.result (λ (once : ShortItems Place). AreSameOnce c.in_ok-gone.gone.items once.items) (λ (once : ShortItems Place). AreGone c.args.table.now c.args.plan.now.label c.args.plan.now.step once.items)
    (λ once same. gone_same c.args.table.now c.args.plan.now.label c.args.plan.now.step c.in_ok-gone.gone.items once.items
    (subst (λ (l : Label). AreGone c.args.table.now l c.args.plan.now.step c.in_ok-gone.gone.items) c.label.ensures
    (subst (λ (s : Step). AreGone c.args.table.now c.label.result s c.in_ok-gone.gone.items) c.step.ensures
    c.in_ok-gone.ensures)) same) c.each_once.ensures
