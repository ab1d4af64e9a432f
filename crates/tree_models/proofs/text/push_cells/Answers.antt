use Rattle.std.proofs.Common.{◌≡◌, Some, sym, ap, ◌∙◌, inl, arith}
use Rattle.std.specs.Prelude.{slice_get}
use Rattle.std.proofs.lemmas.Option.{slice_get-get_or}
use Rattle.tree_models.specs.Texts.{above}
use Rattle.tree_models.proofs.CellLines.{first_none, first_next, lines_all}
use Rattle.tree_models.proofs.text.push_cells.Goals as goal

pub loop-place-init : goal.loop-place-init
loop-place-init c = first_none c.args.templates.now.symbols c.args.cells.now c.args.shown.now c.args.out.now.items c.in_ok-end.end c.in_ok-end.ensures

pub loop-place-preserved : goal.loop-place-preserved
loop-place-preserved c =
    let at : slice_get c.args.cells.now c.loop-place.place ≡ Some c.in-Some.cell.now = slice_get-get_or c.args.cells.now c.loop-place.place c.in-Some.cell.now c.in-Some.ensures.lookup.3.0 ∙ ap Some (sym c.in-Some.ensures.lookup.1) in
    first_next c.args.templates.now.symbols c.args.cells.now c.args.shown.now c.args.out.now.items c.loop-place.out.items c.push_cell_line.new.out.items c.loop-place.place c.loop-place.end c.in_ok-end-2.end c.in-Some.cell.now c.loop-place.invariant
    c.loop-place-test.true at c.in_ok-push_cell_line.ensures (c.in_ok-end-2.ensures ∙ ap (above c.loop-place.end) c.arguments.ensures)

pub returns : goal.returns
returns c =
    lines_all c.args.templates.now.symbols c.args.cells.now c.args.shown.now c.args.out.now.items c.loop-place.out.items c.loop-place.place c.loop-place.end c.loop-place.invariant (inl (omega arith))
