use Rattle.std.proofs.Common.{ℕ, refl, ap, ◌∙◌}
use Rattle.tree_classes.specs.Numbers.{number_in}
use Rattle.tree_models.specs.Visiting.{place_by}
use Rattle.tree_models.proofs.GivenLists.{given_more}
use Rattle.tree_models.proofs.made.places_given.Goals as goal

pub loop-k-preserved : goal.loop-k-preserved
loop-k-preserved c =
    let place : ℕ → ℕ = place_by c.args.firsts.now c.args.order.now in
    given_more place c.args.variables.now c.args.nodes.now c.loop-k.k _ _ _ _ c.loop-k.given.items c.push.new.self.items c.requires c.loop-k-test.true c.loop-k.invariant refl (c.place.ensures ∙ ap (number_in c.args.order.now) c.class_at.ensures) c.in_ok-push.ensures.items
