use Rattle.std.proofs.Common.{◌≡◌, Some}
use Rattle.rational_unify.specs.Known.{end_of}
use Rattle.term_graph.specs.Building.{IsBuilding, Grows, IsRowBefore, place_of, seen_tree}
use Rattle.term_graph.specs.Reached.{Reaches}
use Rattle.term_graph.proofs.builder.Builder.row.Given as goal

abbrev pub invariant-loop-k : goal.invariant-loop-k
invariant-loop-k g l = record {
  building : IsBuilding l.templates (end_of l.templates.nodes (g.K.Lookup.bindings l.form)) l.self;
  grows : Grows l.fn.self.seens l.self.seens;
  reaches : Reaches l.templates (end_of l.templates.nodes (g.K.Lookup.bindings l.form)) (seen_tree l.templates.nodes l.fn.seen) l.fn.self.seens l.self.seens;
  row : IsRowBefore l.templates (end_of l.templates.nodes (g.K.Lookup.bindings l.form)) l.self.seens l.fn.seen l.row.items l.k;
  place_is : place_of l.fn.seen ≡ Some l.place;
}
