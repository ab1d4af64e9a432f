use Rattle.std.proofs.Common.{subst, sym}
use Rattle.akl_terms.specs.Template.{IsKnown}
use Rattle.answer_lines.specs.Printing.{forest_of}
use Rattle.answer_lines.proofs.Nodes.{known-at}
use Rattle.answer_lines.proofs.printer.Printer.begin_cycle.Goals as goal

pub begin_written-requires : goal.begin_written-requires
begin_written-requires c = subst (IsKnown c.args.templates.now) (sym c.seen_at-seen.ensures) (known-at (forest_of c.args.templates.now c.args.graph.now c.args.classes.now) c.requires.known c.args.node)
