use Rattle.std.proofs.Common.{◌∙◌, sym}
use Rattle.rational_unify.proofs.Ends.{end-bound}
use Rattle.term_graph.proofs.ending.variable_end.Goals as goal

pub returns-in-Some : goal.returns-in-Some
returns-in-Some g c = record {
  is = c.term_end.ensures.is ∙ sym (end-bound _ _ _ _ c.requires (sym c.get.ensures ∙ c.in-Some.is));
  known = c.term_end.ensures.known;
  short = c.term_end.ensures.short;
}
