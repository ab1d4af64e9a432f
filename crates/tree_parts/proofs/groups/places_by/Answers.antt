use Rattle.std.proofs.Common.{◌≡◌, ◌<◌, ℕ, List, [], ◌∷◌, ◌++◌, length, refl, ap, ◌∙◌, arith}
use Rattle.std.proofs.lemmas.List.{length-set}
use Rattle.tree_parts.specs.Firsts.{at_node}
use Rattle.tree_parts.specs.Lists.{list_at}
use Rattle.std.proofs.Math.ListN.{set}
use Rattle.tree_parts.proofs.Grouping.{items_of, list-set-same, list-set-other, list-read, places-more}
use Rattle.tree_parts.proofs.groups.places_by.Goals as goal

pub loop-place-preserved : goal.loop-place-preserved
loop-place-preserved c =
    let place : ℕ = c.loop-place.place in
    let number : ℕ = at_node c.args.numbers.now place in
    let size : length c.loop-place.lists.items ≡ c.args.count = c.loop-place.invariant.0 in
    let below : number < c.args.count = c.requires.below place 0 c.loop-place-test.true in
    let within : number < length c.loop-place.lists.items = omega (arith, below, size) in
    let read : c.index_mut.result.now.items ≡ list_at (items_of c.loop-place.lists.items) number = list-read c.loop-place.lists.items number c.index_mut.result.now within c.index_mut.ensures.value in
    let same : list_at (items_of (set c.loop-place.lists.items number c.push.new.self)) number ≡ list_at (items_of c.loop-place.lists.items) number ++ place ∷ [] =
    list-set-same c.loop-place.lists.items number c.push.new.self within ∙ c.in_ok-push.ensures.items ∙ ap (λ (xs : List ℕ). xs ++ place ∷ []) read in
    (length-set c.loop-place.lists.items number c.push.new.self ∙ size, places-more c.args.numbers.now (items_of c.loop-place.lists.items) (items_of (set c.loop-place.lists.items number c.push.new.self)) place number refl same (λ g d. list-set-other c.loop-place.lists.items number g c.push.new.self d) c.loop-place.invariant.1)
