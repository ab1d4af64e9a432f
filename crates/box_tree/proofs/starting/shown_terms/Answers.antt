use Rattle.std.proofs.Common.{◌≡◌, ◌∙◌, ◌++◌, ◌∷◌, [], ◌<◌, ◌+◌, sym, ap, subst, take, map, arith}
use Rattle.std.proofs.lemmas.List.{take_more, take_all}
use Rattle.akl_model.specs.Instances.{shown_of}
use Rattle.box_tree.specs.Tables.{AreBelow}
use Rattle.box_tree.specs.Starts.{query_frame}
use Rattle.box_tree.proofs.Begins.{below_at, shown_more}
use Rattle.box_tree.proofs.starting.shown_terms.Goals as goal

pub overflow_add-node : goal.overflow_add-node
overflow_add-node c =
    let below : c.shown-item.result.index < c.args.query.now.variables =
    below_at c.args.query.now.variables c.as_slice-shown-items.result.now c.loop-shown.shown-index c.shown-item.result
    (subst (AreBelow c.args.query.now.variables) (sym c.as_slice-shown-items.ensures) c.requires.shown) c.loop-shown-test.true c.shown-item.is in
    omega (arith, below, c.requires.variables.fits)

pub loop-shown-preserved : goal.loop-shown-preserved
loop-shown-preserved c =
    let below : c.shown-item.result.index < c.args.query.now.variables =
    below_at c.args.query.now.variables c.as_slice-shown-items.result.now c.loop-shown.shown-index c.shown-item.result
    (subst (AreBelow c.args.query.now.variables) (sym c.as_slice-shown-items.ensures) c.requires.shown) c.loop-shown-test.true c.shown-item.is in
    let more : take (c.loop-shown.shown-index + 1) c.as_slice-shown-items.result.now ≡ take c.loop-shown.shown-index c.as_slice-shown-items.result.now ++ c.shown-item.result ∷ [] =
    take_more c.as_slice-shown-items.result.now c.loop-shown.shown-index c.shown-item.result c.loop-shown-test.true
    ∙ ap (λ s. take c.loop-shown.shown-index c.as_slice-shown-items.result.now ++ s ∷ []) (sym c.shown-item.is) in
    rw (c.in_ok-push.ensures.items, c.in_ok-name.ensures)
    (shown_more c.args.program.now c.args.query.now c.args.first_variable c.loop-shown.terms.items (take c.loop-shown.shown-index c.as_slice-shown-items.result.now) c.shown-item.result c.requires.variables below c.loop-shown.invariant
    ∙ ap (map (shown_of query_frame)) (sym more))

pub returns : goal.returns
returns c = c.loop-shown.invariant ∙ ap (map (shown_of query_frame)) (take_all c.loop-shown.shown-index c.as_slice-shown-items.result.now c.loop-shown-test.false ∙ c.as_slice-shown-items.ensures)
