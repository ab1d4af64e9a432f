use Rattle.std.proofs.Common.{◌++◌, List, sym, ap, ◌∙◌}
use Rattle.std.proofs.lemmas.List.{append-nil, drop_all}
use Rattle.box_tree.specs.declared.inside.InnerBox.{InnerBox}
use Rattle.box_tree.specs.Places.{goal_places, places_in}
use Rattle.box_tree.proofs.Within.{places_more}
use Rattle.box_tree.proofs.inside.places_in.Goals as goal

pub loop-inner-preserved : goal.loop-inner-preserved
loop-inner-preserved c = places_more c.args.boxes.now c.loop-inner.inner-index c.inner-item.result c.loop-inner.places.items c.push.new.self.items c.push_goal_places.new.places.items c.loop-inner-test.true c.inner-item.is c.loop-inner.invariant
    c.in_ok-push.ensures.items (c.in_ok-push_goal_places.ensures ∙ ap (λ gs. c.push.new.self.items ++ goal_places gs) c.as_slice.ensures.value)

pub returns : goal.returns
returns c =
    sym (append-nil c.loop-inner.places.items) ∙ ap (λ (bs : List InnerBox). c.loop-inner.places.items ++ places_in bs) (sym (drop_all c.loop-inner.inner-index c.args.boxes.now c.loop-inner-test.false)) ∙ c.loop-inner.invariant
