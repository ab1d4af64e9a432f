use Rattle.std.proofs.Common.{◌≡◌, ◌≤◌, ◌<◌, ◌+◌, ◌∷◌, Err, Some, length, drop, refl, rules, subst, sym, ap, arith}
use Rattle.std.specs.Prelude.{slice_get}
use Rattle.std.proofs.lemmas.Option.{slice_get_read}
use Rattle.akl_terms.specs.Template.{tree}
use Rattle.answer_text.specs.Answers.{longest_answer, shown_trees}
use Rattle.answer_text.specs.declared.lines.AnswerError.TheVariants as variants
use Rattle.answer_text.proofs.Whole.{lines-at, lines-end}
use Rattle.answer_lines.specs.Lines.{AreForestLines}
use Rattle.answer_lines.specs.Printing.{Moves, Overruns, forest_of, line_begun}
use Rattle.answer_lines.proofs.Runs.{Covers, covers-none, covers-line, long-line, covers-all, long-cycles}
use Rattle.answer_lines.proofs.lines.graph_lines.Goals as goal

pub loop-place-init : goal.loop-place-init
loop-place-init c =
    let x = forest_of c.args.templates.now c.args.graph.now c.args.classes.now in
    let lines = shown_trees c.args.templates.now c.args.shown.now in
    record {
      covers = subst (λ s. Covers x lines c.args.graph.now.shown.items s lines) (sym c.new-printer.ensures) (covers-none x lines c.args.graph.now.shown.items);
      none_left = ap (λ s. s.pieces) c.new-printer.ensures;
      short = subst (λ s. length s.out ≤ longest_answer) (sym c.new-printer.ensures) (omega arith);
    }

pub returns-in_err-print_all-clause-long : goal.returns-in_err-print_all-clause-long
returns-in_err-print_all-clause-long c e =
    let x = forest_of c.args.templates.now c.args.graph.now c.args.classes.now in
    let lines = shown_trees c.args.templates.now c.args.shown.now in
    let item = c.index-shown-place.result in
    let here : drop c.loop-place.place lines ≡ (item.name, tree c.args.templates.now.nodes item.term) ∷ drop (c.loop-place.place + 1) lines =
    lines-at c.args.templates.now c.args.shown.now c.loop-place.place item c.loop-place-test.true c.index-shown-place.is in
    let within : c.loop-place.place < length c.args.shown.now = c.loop-place-test.true in
    let even : length c.args.graph.now.shown.items ≡ length c.args.shown.now = c.requires.shown in
    let at : slice_get c.args.graph.now.shown.items c.loop-place.place ≡ Some c.index.result.now =
    slice_get_read c.args.graph.now.shown.items (length c.args.graph.now.shown.items) c.loop-place.place c.index.result.now refl (omega (arith, within, even)) c.index.ensures in
    let name : c.as_str.result.now ≡ c.index-shown-place.result.name = search rules in
    let begun : c.begin_line.new.self ≡ line_begun c.index-shown-place.result.name c.index.result.now c.loop-place.printer =
    subst (λ n. c.begin_line.new.self ≡ line_begun n c.index.result.now c.loop-place.printer) name c.in_ok-begin_line.ensures in
    let long : c.print_all.result ≡ Err variants.Long = search rules in
    long-line x lines c.args.graph.now.shown.items c.loop-place.printer c.loop-place.place c.index.result.now item.name (tree c.args.templates.now.nodes item.term) (drop (c.loop-place.place + 1) lines) here at c.loop-place.invariant.none_left
    (subst (λ rest. Covers x lines c.args.graph.now.shown.items c.loop-place.printer rest) here c.loop-place.invariant.covers) (subst (λ s. Overruns x s) begun (c.print_all.ensures.long long))

pub loop-place-preserved : goal.loop-place-preserved
loop-place-preserved c =
    let x = forest_of c.args.templates.now c.args.graph.now c.args.classes.now in
    let lines = shown_trees c.args.templates.now c.args.shown.now in
    let item = c.index-shown-place.result in
    let here : drop c.loop-place.place lines ≡ (item.name, tree c.args.templates.now.nodes item.term) ∷ drop (c.loop-place.place + 1) lines =
    lines-at c.args.templates.now c.args.shown.now c.loop-place.place item c.loop-place-test.true c.index-shown-place.is in
    let within : c.loop-place.place < length c.args.shown.now = c.loop-place-test.true in
    let even : length c.args.graph.now.shown.items ≡ length c.args.shown.now = c.requires.shown in
    let at : slice_get c.args.graph.now.shown.items c.loop-place.place ≡ Some c.index.result.now =
    slice_get_read c.args.graph.now.shown.items (length c.args.graph.now.shown.items) c.loop-place.place c.index.result.now refl (omega (arith, within, even)) c.index.ensures in
    let name : c.as_str.result.now ≡ c.index-shown-place.result.name = search rules in
    let begun : c.begin_line.new.self ≡ line_begun c.index-shown-place.result.name c.index.result.now c.loop-place.printer =
    subst (λ n. c.begin_line.new.self ≡ line_begun n c.index.result.now c.loop-place.printer) name c.in_ok-begin_line.ensures in
    record {
      covers =
          covers-line x lines c.args.graph.now.shown.items c.loop-place.printer c.loop-place.place c.index.result.now item.name (tree c.args.templates.now.nodes item.term) (drop (c.loop-place.place + 1) lines) here at c.loop-place.invariant.none_left
          (subst (λ rest. Covers x lines c.args.graph.now.shown.items c.loop-place.printer rest) here c.loop-place.invariant.covers) c.print_all.new.printer
          (subst (λ s. Moves x s c.print_all.new.printer) begun c.in_ok-print_all.ensures.moves);
      none_left = c.in_ok-print_all.ensures.none_left;
      short = c.in_ok-print_all.ensures.short;
    }

pub returns-in_err-print_cycles-clause-long : goal.returns-in_err-print_cycles-clause-long
returns-in_err-print_cycles-clause-long c e =
    let x = forest_of c.args.templates.now c.args.graph.now c.args.classes.now in
    let lines = shown_trees c.args.templates.now c.args.shown.now in
    let long : c.print_cycles.result ≡ Err variants.Long = search rules in
    long-cycles x lines c.args.graph.now.shown.items c.loop-place.printer c.loop-place.invariant.none_left
    (subst (λ rest. Covers x lines c.args.graph.now.shown.items c.loop-place.printer rest) (lines-end c.args.templates.now c.args.shown.now c.loop-place.place c.loop-place-test.false) c.loop-place.invariant.covers) (c.print_cycles.ensures.long long)

pub returns-clause-text : goal.returns-clause-text
returns-clause-text c =
    let x = forest_of c.args.templates.now c.args.graph.now c.args.classes.now in
    let lines = shown_trees c.args.templates.now c.args.shown.now in
    subst (λ text. AreForestLines x lines c.args.graph.now.shown.items text) (sym c.into_bytes.ensures)
    (covers-all x lines c.args.graph.now.shown.items c.loop-place.printer c.loop-place.invariant.none_left
    (subst (λ rest. Covers x lines c.args.graph.now.shown.items c.loop-place.printer rest) (lines-end c.args.templates.now c.args.shown.now c.loop-place.place c.loop-place-test.false) c.loop-place.invariant.covers)
    c.print_cycles.new.printer c.in_ok-print_cycles.ensures.ends)
