use Rattle.rational_unify.specs.Known.{end_of}
use Rattle.term_graph.specs.Building.{IsBuilding, AreEndsBefore}
use Rattle.term_graph.proofs.graph.build_graph.Given as goal

abbrev pub invariant-loop-line : goal.invariant-loop-line
invariant-loop-line g l = record {
  building : IsBuilding l.templates (end_of l.templates.nodes (g.K.Lookup.bindings l.form)) l.builder;
  nodes : AreEndsBefore l.templates (end_of l.templates.nodes (g.K.Lookup.bindings l.form)) l.builder.seens l.shown l.nodes.items l.line-index;
}
