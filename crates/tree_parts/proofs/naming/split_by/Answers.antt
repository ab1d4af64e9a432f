use Rattle.std.proofs.Common.{rules, ◌≡◌, ◌<◌, ℕ, List, length, map, get_or, subst, ap, ◌∙◌}
use Rattle.tree_parts.specs.Firsts.{at_node}
use Rattle.tree_parts.specs.Lists.{list_at, AreGroups}
use Rattle.tree_parts.proofs.Grouping.{items_of, list-read}
use Rattle.tree_parts.proofs.Splitting.{part-of, split-more}
use Rattle.tree_parts.proofs.naming.split_by.Goals as goal

pub loop-place-preserved : goal.loop-place-preserved
loop-place-preserved c =
    let nodes : List ℕ = c.args.nodes.now in
    let old : List ℕ = c.args.naming.now.names.items in
    let parts : List (List ℕ) = items_of c.in_ok-parts.parts.items in
    let within : c.loop-place.place < length c.in_ok-parts.parts.items = search rules in
    let is : c.index.result.now ≡ get_or c.in_ok-parts.parts.items c.loop-place.place c.index.result.now = search rules in
    let read : c.deref-in-loop-place.result.now ≡ list_at parts c.loop-place.place = c.deref-in-loop-place.ensures.value ∙ list-read c.in_ok-parts.parts.items c.loop-place.place c.index.result.now within is in
    let part : c.in_ok-part.part.items ≡ map (at_node nodes) (list_at parts c.loop-place.place) = c.in_ok-part.ensures ∙ ap (map (at_node nodes)) read in
    let groups : AreGroups (map (at_node old) nodes) parts =
    subst (λ (ks : List ℕ). AreGroups ks parts) (c.deref-2.ensures.value ∙ c.in_ok-names.ensures ∙ ap (λ (ns : List ℕ). map (at_node ns) nodes) c.deref.ensures.value) c.in_ok-parts.ensures in
    (split-more old c.loop-place.naming.names.items c.detach.new.naming.names.items nodes c.in_ok-part.part.items (part-of old nodes c.in_ok-part.part.items parts c.loop-place.place groups part) c.loop-place.invariant.0 c.in_ok-detach.ensures.split, c.in_ok-detach.ensures.listed)
