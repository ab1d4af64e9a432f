use Rattle.std.proofs.Common.{◌^◌, ◌-◌, length, map}
use Rattle.rational_unify.specs.Known.{end_of}
use Rattle.term_graph.specs.Building.{IsBuilding, Grows}
use Rattle.term_graph.specs.Reached.{KeepsReached}
use Rattle.term_graph.proofs.Rows.{AreRows}
use Rattle.term_graph.proofs.builder.Builder.complete.Given as goal

abbrev pub invariant-loop-alloc : goal.invariant-loop-alloc
invariant-loop-alloc g l = record {
  building : IsBuilding l.templates (end_of l.templates.nodes (g.K.Lookup.bindings l.form)) l.self;
  grows : Grows l.fn.self.seens l.self.seens;
  reached : KeepsReached l.templates (end_of l.templates.nodes (g.K.Lookup.bindings l.form)) l.fn.self.seens l.self.seens;
  rows : AreRows l.templates (end_of l.templates.nodes (g.K.Lookup.bindings l.form)) l.self.seens (map (λ v. v.items) l.rows.items);
}

-- each turn takes memory for a row
abbrev pub decreases-loop-alloc : goal.decreases-loop-alloc
decreases-loop-alloc g l = 2 ^ 64 - length l.rows.items
