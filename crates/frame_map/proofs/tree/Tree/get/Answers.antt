use Rattle.std.proofs.Common.{◌≤◌, ◌<◌, List, Option, length, get_or, option_copied, sym, ap, subst, ◌∙◌}
use Rattle.name_map.proofs.Within.{within_past, within_at}
use Rattle.name_map.specs.Pages.{in_slot}
use Rattle.frame_map.specs.declared.tree.Tree.{Tree}
use Rattle.frame_map.specs.Contents.{Contents, contents}
use Rattle.frame_map.proofs.Bounds.{leaf_contents}
use Rattle.frame_map.proofs.Children.{value_in_child, no_child, child_is_tree}
use Rattle.frame_map.proofs.tree.Tree.get.Goals as goal

pub returns-in_err-at : goal.returns-in_err-at
returns-in_err-at g c = ap option_copied c.from_residual.ensures
    ∙ sym (c.loop-at.invariant.1 ∙ no_child c.loop-at.at.now c.in-Inner.below c.in-Inner.children c.deref-children.result.now c.in-Inner.is c.deref-children.ensures c.loop-at.rest c.first_digit.result c.first_digit.ensures
    (subst (λ (xs : List (Tree g.row.V.Denot)). length xs ≤ c.first_digit.result) c.deref.ensures.value c.in_err-at.ensures.lookup.3))

pub loop-at-preserved : goal.loop-at-preserved
loop-at-preserved g c =
    let within = subst (λ (xs : List (Tree g.row.V.Denot)). c.first_digit.result < length xs) c.deref.ensures.value c.in_ok-at.ensures.lookup.3.0 in
    let child = λ (d : Tree g.row.V.Denot). c.in_ok-at.ensures.lookup.3.1 d ∙ ap (λ (xs : List (Tree g.row.V.Denot)). get_or xs c.first_digit.result d) c.deref.ensures.value in (
      child_is_tree c.loop-at.at.now c.in-Inner.below c.in-Inner.children c.deref-children.result.now c.in-Inner.is c.deref-children.ensures c.first_digit.result c.in_ok-at.at.now c.loop-at.invariant.0 within child,
      c.loop-at.invariant.1
          ∙ value_in_child c.loop-at.at.now c.in-Inner.below c.in-Inner.children c.deref-children.result.now c.in-Inner.is c.deref-children.ensures c.loop-at.rest c.first_digit.result c.first_digit.ensures c.in_ok-at.at.now within child
          ∙ ap (contents c.in_ok-at.at.now).value (sym c.last_digits-rest.ensures),
    )

pub returns-in_err-get : goal.returns-in_err-get
returns-in_err-get g c = ap option_copied c.from_residual-in_err-get.ensures
    ∙ sym (c.loop-at.invariant.1 ∙ ap (λ (x : Contents g.row.V.Denot). x.value c.loop-at.rest) (leaf_contents c.loop-at.at.now c.in-Leaf.slots c.deref-slots.result.now c.in-Leaf.is c.deref-slots.ensures)
    ∙ within_past in_slot c.deref-slots.result.now.items c.loop-at.rest (subst (λ (xs : List (Option g.row.V.Denot)). length xs ≤ c.loop-at.rest) c.deref-2.ensures.value c.in_err-get.ensures.lookup.3))

pub returns : goal.returns
returns g c = c.as_ref.ensures.value
    ∙ sym (c.loop-at.invariant.1 ∙ ap (λ (x : Contents g.row.V.Denot). x.value c.loop-at.rest) (leaf_contents c.loop-at.at.now c.in-Leaf.slots c.deref-slots.result.now c.in-Leaf.is c.deref-slots.ensures)
    ∙ within_at in_slot c.deref-slots.result.now.items c.loop-at.rest c.in_ok-get.field-0.now (subst (λ (xs : List (Option g.row.V.Denot)). c.loop-at.rest < length xs) c.deref-2.ensures.value c.in_ok-get.ensures.lookup.3.0)
    (λ d. c.in_ok-get.ensures.lookup.3.1 d ∙ ap (λ (xs : List (Option g.row.V.Denot)). get_or xs c.loop-at.rest d) c.deref-2.ensures.value))
