use Rattle.std.proofs.Common.{subst, sym, ap, ◌∙◌}
use Rattle.answer_text.specs.Pieces.{IsShort}
use Rattle.answer_text.proofs.Shorts.{arguments_short}
use Rattle.term_graph.specs.Building.{seen_tree}
use Rattle.term_graph.proofs.Places.{seen-tree}
use Rattle.term_graph.proofs.ending.term_end.Goals as goal

pub returns : goal.returns
returns g c = record {
  is = ap (seen_tree c.args.templates.now.nodes) c.look.ensures.seen ∙ sym (seen-tree c.args.templates.now.nodes c.look.ensures.arranged c.chain_end.result) ∙ c.chain_end.ensures;
  known = c.look.ensures.known;
  short = subst IsShort (sym c.look.ensures.seen) (arguments_short c.args.templates.now.nodes c.look.ensures.arranged c.look.ensures.small c.chain_end.result);
}
