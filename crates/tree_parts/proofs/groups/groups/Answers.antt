use Rattle.std.proofs.Common.{ℕ, List, length, subst, ap, ◌∙◌}
use Rattle.tree_parts.specs.Firsts.{AreFirsts}
use Rattle.tree_parts.specs.Lists.{ArePlaces}
use Rattle.tree_parts.proofs.Grouping.{items_of, are-groups}
use Rattle.tree_parts.proofs.groups.groups.Goals as goal

pub returns : goal.returns
returns c =
    are-groups c.args.keys.now c.in_ok-firsts.firsts.items (items_of c.in_ok-lists.lists.items)
    (subst (λ (ks : List (List ℕ)). AreFirsts ks c.in_ok-firsts.firsts.items) (ap items_of c.deref.ensures.value ∙ c.in_ok-singles.ensures) c.in_ok-firsts.ensures)
    (subst (λ (fs : List ℕ). ArePlaces fs (items_of c.in_ok-lists.lists.items) (length fs)) c.deref-2.ensures.value c.in_ok-lists.ensures.places)
