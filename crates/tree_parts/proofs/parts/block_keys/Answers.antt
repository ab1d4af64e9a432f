use Rattle.std.proofs.Common.{rules, ◌≡◌, ◌<◌, ℕ, List, length, map, get_or, Some, refl, sym, ap, ◌∙◌, arith}
use Rattle.std.specs.Prelude.{slice_get, option_map}
use Rattle.std.proofs.lemmas.List.{length-map}
use Rattle.std.proofs.lemmas.Option.{slice_get_read, slice_get-get_or, slice_get-map}
use Rattle.tree_parts.proofs.parts.block_keys.Goals as goal

pub block_key-requires-clause-within : goal.block_key-requires-clause-within
block_key-requires-clause-within c = λ k d h.
    let rows : List (List ℕ) = map (λ v. v.items) c.args.rows.now in
    let same : c.deref.result.now ≡ c.index-rows-node.result.items = search rules in
    let at : slice_get rows c.loop-node.node ≡ Some c.index-rows-node.result.items =
    slice_get-map (λ v. v.items) c.args.rows.now c.loop-node.node ∙ ap (option_map (λ v. v.items)) (slice_get_read c.args.rows.now (length c.args.rows.now) c.loop-node.node c.index-rows-node.result refl c.loop-node-test.true c.index-rows-node.is) in
    let to : slice_get c.index-rows-node.result.items k ≡ Some (get_or c.deref.result.now k d) = ap (λ (xs : List ℕ). slice_get xs k) (sym same) ∙ slice_get-get_or c.deref.result.now k d h in
    let l : get_or c.deref.result.now k d < length rows = c.requires.within c.loop-node.node k (get_or c.deref.result.now k d) (record { row = c.index-rows-node.result.items; of = at; to = to }) in
    let size : length rows ≡ length c.args.rows.now = length-map c.args.rows.now (λ v. v.items) in
    let blocks : length c.args.blocks.now ≡ length c.args.rows.now = c.requires.size in
    omega (arith, l, size, blocks)
