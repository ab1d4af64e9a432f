use Rattle.std.proofs.Common.{◌≡◌, ◌≤◌, [], length, drop}
use Rattle.answer_text.specs.Answers.{longest_answer, shown_trees}
use Rattle.answer_lines.specs.Printing.{forest_of}
use Rattle.answer_lines.proofs.Runs.{Covers}
use Rattle.answer_lines.proofs.lines.graph_lines.Given as goal

abbrev pub invariant-loop-place : goal.invariant-loop-place
invariant-loop-place l = record {
  covers : Covers (forest_of l.templates l.graph l.classes) (shown_trees l.templates l.shown) l.graph.shown.items l.printer (drop l.place (shown_trees l.templates l.shown));
  none_left : l.printer.pieces ≡ [];
  short : length l.printer.out ≤ longest_answer;
}
