use Rattle.std.proofs.Common.{drop, ◌≤◌, length}
use Rattle.rational_unify.specs.Known.{end_of}
use Rattle.answer_text.specs.Answers.{longest_answer, shown_trees}
use Rattle.answer_text.proofs.Whole.{Covers}
use Rattle.answer_text.proofs.lines.answer.Given as goal

abbrev pub invariant-loop-line : goal.invariant-loop-line
invariant-loop-line g l = record {
  covers : Covers l.templates (end_of l.templates.nodes (g.K.Lookup.bindings l.form)) (shown_trees l.templates l.shown) (drop l.line-index (shown_trees l.templates l.shown)) l.printer;
  short : length l.printer.out ≤ longest_answer;
}
