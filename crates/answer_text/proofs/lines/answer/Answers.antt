use Rattle.std.proofs.Common.{◌≡◌, subst, sym, arith, [], ◌∷◌, drop, length, ◌+◌, ◌≤◌, rules, Err}
use Rattle.akl_terms.specs.Template.{tree}
use Rattle.rational_unify.specs.Known.{end_of}
use Rattle.answer_text.specs.declared.lines.AnswerError.TheVariants as variants
use Rattle.answer_text.specs.Printed.{PrintsLines}
use Rattle.answer_text.specs.Answers.{longest_answer, shown_trees}
use Rattle.answer_text.specs.Pieces.{Moves, line_begun, Overruns}
use Rattle.answer_text.proofs.Whole.{Covers, Covers-begun, Covers-more, Covers-text, Covers-long, lines-at, lines-end}
use Rattle.answer_text.proofs.lines.answer.Goals as goal

pub loop-line-init : goal.loop-line-init
loop-line-init g c = record {
  covers = subst (λ s. Covers c.args.templates.now (end_of c.args.templates.now.nodes (g.K.Lookup.bindings c.args.form.now)) (shown_trees c.args.templates.now c.args.shown.now) (shown_trees c.args.templates.now c.args.shown.now) s)
      (sym c.new-printer.ensures) (Covers-begun c.args.templates.now (end_of c.args.templates.now.nodes (g.K.Lookup.bindings c.args.form.now)) (shown_trees c.args.templates.now c.args.shown.now));
  short = subst (λ s. length s.out ≤ longest_answer) (sym c.new-printer.ensures) (omega arith);
}

pub loop-line-preserved : goal.loop-line-preserved
loop-line-preserved g c = record {
  covers =
      let here : drop c.loop-line.line-index (shown_trees c.args.templates.now c.args.shown.now)
      ≡ (c.line-item.result.name, tree c.args.templates.now.nodes c.line-item.result.term) ∷ drop (c.loop-line.line-index + 1) (shown_trees c.args.templates.now c.args.shown.now) =
      lines-at c.args.templates.now c.args.shown.now c.loop-line.line-index c.line-item.result c.loop-line-test.true c.line-item.is in
      Covers-more c.args.templates.now (end_of c.args.templates.now.nodes (g.K.Lookup.bindings c.args.form.now)) (shown_trees c.args.templates.now c.args.shown.now)
      (drop (c.loop-line.line-index + 1) (shown_trees c.args.templates.now c.args.shown.now)) c.line-item.result.name c.line-item.result.term c.loop-line.printer c.print_all.new.printer
      (subst (λ rest. Covers c.args.templates.now (end_of c.args.templates.now.nodes (g.K.Lookup.bindings c.args.form.now)) (shown_trees c.args.templates.now c.args.shown.now) rest c.loop-line.printer) here c.loop-line.invariant.covers)
      (subst (λ s. Moves c.args.templates.now (end_of c.args.templates.now.nodes (g.K.Lookup.bindings c.args.form.now)) s c.print_all.new.printer)
      (subst (λ n. c.begin_line.new.self ≡ line_begun n c.line-item.result.term c.loop-line.printer) c.as_str.ensures c.in_ok-begin_line.ensures) c.in_ok-print_all.ensures.moves)
      c.in_ok-print_all.ensures.none_left;
  short = c.in_ok-print_all.ensures.short;
}

pub returns-in_err-print_all-clause-long : goal.returns-in_err-print_all-clause-long
returns-in_err-print_all-clause-long g c e =
    let here : drop c.loop-line.line-index (shown_trees c.args.templates.now c.args.shown.now)
    ≡ (c.line-item.result.name, tree c.args.templates.now.nodes c.line-item.result.term) ∷ drop (c.loop-line.line-index + 1) (shown_trees c.args.templates.now c.args.shown.now) =
    lines-at c.args.templates.now c.args.shown.now c.loop-line.line-index c.line-item.result c.loop-line-test.true c.line-item.is in
    let long : c.print_all.result ≡ Err variants.Long = search rules in
    Covers-long c.args.templates.now (end_of c.args.templates.now.nodes (g.K.Lookup.bindings c.args.form.now)) c.args.shown.now
    (drop (c.loop-line.line-index + 1) (shown_trees c.args.templates.now c.args.shown.now)) c.line-item.result.name c.line-item.result.term c.loop-line.printer
    (subst (λ rest. Covers c.args.templates.now (end_of c.args.templates.now.nodes (g.K.Lookup.bindings c.args.form.now)) (shown_trees c.args.templates.now c.args.shown.now) rest c.loop-line.printer) here c.loop-line.invariant.covers)
    (subst (λ s. Overruns c.args.templates.now (end_of c.args.templates.now.nodes (g.K.Lookup.bindings c.args.form.now)) s)
    (subst (λ n. c.begin_line.new.self ≡ line_begun n c.line-item.result.term c.loop-line.printer) c.as_str.ensures c.in_ok-begin_line.ensures) (c.print_all.ensures.long long))

pub returns-clause-text : goal.returns-clause-text
returns-clause-text g c E r =
    subst (λ text. PrintsLines c.args.templates.now.symbols E [] (shown_trees c.args.templates.now c.args.shown.now) text) (sym c.into_bytes.ensures)
    (Covers-text c.args.templates.now (end_of c.args.templates.now.nodes (g.K.Lookup.bindings c.args.form.now)) c.args.shown.now c.loop-line.printer
    (subst (λ rest. Covers c.args.templates.now (end_of c.args.templates.now.nodes (g.K.Lookup.bindings c.args.form.now)) (shown_trees c.args.templates.now c.args.shown.now) rest c.loop-line.printer)
    (lines-end c.args.templates.now c.args.shown.now c.loop-line.line-index c.loop-line-test.false) c.loop-line.invariant.covers) E r)
