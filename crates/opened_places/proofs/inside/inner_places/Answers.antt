use Rattle.std.proofs.Common.{ℕ, List, [], get_or, take, sym, subst}
use Rattle.std.proofs.lemmas.List.{take_more}
use Rattle.akl_terms.specs.declared.name.Name.{Name}
use Rattle.opened_places.specs.Inner.{AddsEach}
use Rattle.opened_places.proofs.InnerPlaces.{got_in, adds_end}
use Rattle.opened_places.proofs.inside.inner_places.Goals as goal

pub push_inner-requires-clause-there : goal.push_inner-requires-clause-there
push_inner-requires-clause-there c = c.requires.there _ (got_in c.args.boxes.now c.loop-name.name-index (record { worker = 0; number = 0 }) c.loop-name-test.true)

pub loop-name-preserved : goal.loop-name-preserved
loop-name-preserved c =
    let boxes : List Name = c.args.boxes.now in
    let at : ℕ = c.loop-name.name-index in
    let d : Name = record { worker = 0; number = 0 } in
    subst (λ (ns : List Name). AddsEach c.args.table.now c.args.outer ns [] c.push_inner.new.places.items) (sym (take_more boxes at d c.loop-name-test.true))
    (adds_end c.args.table.now c.args.outer (get_or boxes at d) (take at boxes) [] c.loop-name.places.items c.push_inner.new.places.items c.loop-name.invariant c.in_ok-push_inner.ensures)
