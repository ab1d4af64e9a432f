use Rattle.std.proofs.Common.{map, take}
use Rattle.rational_unify.specs.Known.{end_of}
use Rattle.term_graph.specs.Building.{IsBuilding}
use Rattle.term_graph.specs.Reached.{AreReached}
use Rattle.tree_models.specs.Starts.{start_tree, AreNodesOf}
use Rattle.tree_models.proofs.starts.start_graph.Given as goal

abbrev pub invariant-loop-start : goal.invariant-loop-start
invariant-loop-start g l = record {
  building : IsBuilding l.templates (end_of l.templates.nodes (g.K.Lookup.bindings l.form)) l.builder;
  nodes : AreNodesOf l.templates (end_of l.templates.nodes (g.K.Lookup.bindings l.form)) l.builder.seens (map (start_tree l.templates.nodes) (take l.start-index l.starts)) l.nodes.items;
  reached : AreReached l.templates (end_of l.templates.nodes (g.K.Lookup.bindings l.form)) (map (start_tree l.templates.nodes) l.starts) l.builder.seens;
}
