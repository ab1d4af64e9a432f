use Rattle.std.proofs.Common.{rules, ◌≡◌, ◌<◌, ℕ, List, length, map, get_or, Some, refl, ap, ◌∙◌}
use Rattle.std.specs.Prelude.{slice_get, option_map}
use Rattle.std.proofs.lemmas.Option.{slice_get_read, slice_get-map}
use Rattle.tree_parts.specs.Parts.{IsEntry}
use Rattle.tree_parts.proofs.Numbering.{entries-more, entries-row}
use Rattle.tree_parts.proofs.entries.add_row.Goals as goal

pub loop-place-preserved : goal.loop-place-preserved
loop-place-preserved c =
    let rows : List (List ℕ) = map (λ v. v.items) c.args.rows.now in
    let row : List ℕ = c.index-rows-node.result.items in
    let at : slice_get rows c.args.node ≡ Some row =
    slice_get-map (λ v. v.items) c.args.rows.now c.args.node ∙ ap (option_map (λ v. v.items)) (slice_get_read c.args.rows.now (length c.args.rows.now) c.args.node c.index-rows-node.result refl c.requires.node c.index-rows-node.is) in
    let within : c.loop-place.place < length row = search rules in
    let is : c.index.result.now ≡ get_or row c.loop-place.place c.index.result.now = search rules in
    let entry : IsEntry rows c.args.node c.loop-place.place c.index.result.now = record { row = row; of = at; to = slice_get_read row (length row) c.loop-place.place c.index.result.now refl within is } in
    rw (c.in_ok-push.ensures.items, c.in_ok-push-2.ensures.items, c.in_ok-push-3.ensures.items)
    (entries-more rows c.loop-place.entries.nodes.items c.loop-place.entries.places.items c.loop-place.entries.nexts.items c.args.node c.loop-place.place c.index.result.now entry c.loop-place.invariant)

pub returns : goal.returns
returns c =
    let rows : List (List ℕ) = map (λ v. v.items) c.args.rows.now in
    let row : List ℕ = c.index-rows-node.result.items in
    let at : slice_get rows c.args.node ≡ Some row =
    slice_get-map (λ v. v.items) c.args.rows.now c.args.node ∙ ap (option_map (λ v. v.items)) (slice_get_read c.args.rows.now (length c.args.rows.now) c.args.node c.index-rows-node.result refl c.requires.node c.index-rows-node.is) in
    let size : c.loop-place.place ≡ length row = search rules in
    entries-row rows c.loop-place.entries.nodes.items c.loop-place.entries.places.items c.loop-place.entries.nexts.items c.args.node c.loop-place.place row at size c.loop-place.invariant
