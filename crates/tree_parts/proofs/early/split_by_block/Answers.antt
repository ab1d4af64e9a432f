use Rattle.std.proofs.Common.{rules, ◌≡◌, ◌<◌, ℕ, List, length, map, get_or, subst, ap, ◌∙◌}
use Rattle.std.specs.Global.{Vec}
use Rattle.tree_parts.specs.Firsts.{at_node}
use Rattle.tree_parts.specs.Lists.{list_at, AreGroups}
use Rattle.tree_parts.specs.Splits.{AreSplit, AreHits}
use Rattle.tree_parts.proofs.Grouping.{items_of, list-read}
use Rattle.tree_parts.proofs.Telling.{block-more}
use Rattle.tree_parts.proofs.early.split_by_block.Goals as goal

pub loop-place-preserved : goal.loop-place-preserved
loop-place-preserved c =
    let nodes : List ℕ = c.args.entries.now.nodes.items in
    let places : List ℕ = c.args.entries.now.places.items in
    let names : List ℕ = c.args.naming.now.names.items in
    let members : List (List ℕ) = items_of c.args.naming.now.members.items in
    let into : List (List ℕ) = items_of c.args.into.now in
    let parts : List (List ℕ) = items_of c.in_ok-parts.parts.items in
    let found : List ℕ = c.in_ok-found.found.items in
    let listed : c.deref-3.result.now ≡ list_at members c.args.name =
    c.deref-3.ensures.value ∙ list-read c.deref.result.now c.args.name c.in-Some.members.now c.in-Some.ensures.lookup.3.0 c.in-Some.ensures.lookup.1 ∙ ap (λ (ms : List (Vec ℕ)). list_at (items_of ms) c.args.name) c.deref.ensures.value in
    let hits : AreHits names into c.args.name (list_at members c.args.name) found =
    subst (λ (ms : List ℕ). AreHits names into c.args.name ms found) listed (subst (λ (ns : List ℕ). AreHits ns into c.args.name c.deref-3.result.now found) c.deref-2.ensures.value c.in_ok-found.ensures) in
    let keys : c.deref-6.result.now ≡ map (at_node places) found =
    c.deref-6.ensures.value ∙ c.in_ok-places.ensures ∙ ap (λ (ps : List ℕ). map (at_node ps) c.deref-5.result.now) c.deref-4.ensures.value ∙ ap (map (at_node places)) c.deref-5.ensures.value in
    let groups : AreGroups (map (at_node places) found) parts = subst (λ (ks : List ℕ). AreGroups ks parts) keys c.in_ok-parts.ensures in
    let within : c.loop-place.place < length c.in_ok-parts.parts.items = search rules in
    let is : c.index.result.now ≡ get_or c.in_ok-parts.parts.items c.loop-place.place c.index.result.now = search rules in
    let read : c.deref-in-loop-place-2.result.now ≡ list_at parts c.loop-place.place = c.deref-in-loop-place-2.ensures.value ∙ list-read c.in_ok-parts.parts.items c.loop-place.place c.index.result.now within is in
    let numbers : c.in_ok-numbers.numbers.items ≡ map (at_node found) (list_at parts c.loop-place.place) =
    c.in_ok-numbers.ensures ∙ ap (λ (fs : List ℕ). map (at_node fs) c.deref-in-loop-place-2.result.now) c.deref-in-loop-place.ensures.value ∙ ap (map (at_node found)) read in
    let part : c.deref-in-loop-place-5.result.now ≡ map (at_node nodes) (map (at_node found) (list_at parts c.loop-place.place)) =
    c.deref-in-loop-place-5.ensures.value ∙ c.in_ok-nodes.ensures ∙ ap (λ (ns : List ℕ). map (at_node ns) c.deref-in-loop-place-4.result.now) c.deref-in-loop-place-3.ensures.value ∙ ap (map (at_node nodes)) (c.deref-in-loop-place-4.ensures.value ∙ numbers) in
    let split : AreSplit c.loop-place.naming.names.items c.split_by.new.naming.names.items (map (at_node nodes) (map (at_node found) (list_at parts c.loop-place.place))) =
    subst (λ (ps : List ℕ). AreSplit c.loop-place.naming.names.items c.split_by.new.naming.names.items ps) part c.in_ok-split_by.ensures.split in
    (block-more nodes places c.args.entries.now.nexts.items names into members parts found c.args.name c.requires.nexts c.requires.into c.requires.listed hits groups c.loop-place.naming.names.items c.split_by.new.naming.names.items c.loop-place.place c.loop-place.invariant.0 split, c.in_ok-split_by.ensures.listed)
