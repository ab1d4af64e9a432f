use Rattle.std.proofs.Common.{sym, ◌∙◌, ap, subst}
use Rattle.box_tree.specs.declared.view.Sight.{Sight}
use Rattle.guard_plan.specs.Noisy.{IsNoiseAt}
use Rattle.idle_plan.proofs.idling.waits_of_goal.Goals as goal

pub waits_of_atom-requires-clause-noise : goal.waits_of_atom-requires-clause-noise
waits_of_atom-requires-clause-noise c =
    rw c.requires.program
    (subst (λ (s : Sight). IsNoiseAt c.args.view.now s c.args.noise.now) (sym c.sight.ensures ∙ c.in-Atom.is) c.requires.noise)

pub waits_of_condition-requires-clause-noise : goal.waits_of_condition-requires-clause-noise
waits_of_condition-requires-clause-noise c =
    rw c.requires.program
    (subst (λ (s : Sight). IsNoiseAt c.args.view.now s c.args.noise.now) (sym c.sight.ensures ∙ c.in-Choice.is ∙ ap Sight.Choice c.in-Condition.is) c.requires.noise)

pub waits_of_commit-requires-clause-noise : goal.waits_of_commit-requires-clause-noise
waits_of_commit-requires-clause-noise c =
    rw c.requires.program
    (subst (λ (s : Sight). IsNoiseAt c.args.view.now s c.args.noise.now) (sym c.sight.ensures ∙ c.in-Choice.is ∙ ap Sight.Choice c.in-Commit.is) c.requires.noise)

pub waits_of_collecting-requires-clause-noise : goal.waits_of_collecting-requires-clause-noise
waits_of_collecting-requires-clause-noise c =
    rw c.requires.program
    (subst (λ (s : Sight). IsNoiseAt c.args.view.now s c.args.noise.now) (sym c.sight.ensures ∙ c.in-Choice.is ∙ ap Sight.Choice c.in-Collect.is) c.requires.noise)
