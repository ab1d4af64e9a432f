use Rattle.std.proofs.Common.{◌≡◌, ◌+◌, ℕ, List, map, take, subst, sym, arith}
use Rattle.std.proofs.lemmas.List.{take_all}
use Rattle.akl_terms.specs.declared.term.Seen.{Seen}
use Rattle.akl_terms.specs.Tree.{Tree}
use Rattle.rational_unify.specs.Known.{end_of}
use Rattle.tree_models.specs.declared.starts.Start.{Start}
use Rattle.tree_models.specs.Starts.{start_tree, AreNodesOf}
use Rattle.tree_models.proofs.StartNodes.{nodes_grow, start_more}
use Rattle.tree_models.proofs.starts.start_graph.Goals as goal

pub loop-start-preserved : goal.loop-start-preserved
loop-start-preserved g c =
    let t = c.args.templates.now in
    let go : Tree → Tree = end_of t.nodes (g.K.Lookup.bindings c.args.form.now) in
    let more = start_more t go c.args.starts.now c.loop-start.start-index _ c.loop-start.builder c.number.new.builder c.in_ok-node.node c.loop-start.nodes.items c.loop-start-test.true c.in_ok-node.ensures c.loop-start.invariant.nodes c.loop-start.invariant.reached in
    record {
      building = c.in_ok-node.ensures.building;
      nodes = subst (λ (is : List ℕ). AreNodesOf t go c.number.new.builder.seens (map (start_tree t.nodes) (take (c.loop-start.start-index + 1) c.args.starts.now)) is) (sym c.in_ok-push.ensures.items) more.0;
      reached = more.1;
    }

pub returns-clause-starts : goal.returns-clause-starts
returns-clause-starts g c =
    let t = c.args.templates.now in
    let go : Tree → Tree = end_of t.nodes (g.K.Lookup.bindings c.args.form.now) in
    let end : take c.loop-start.start-index c.args.starts.now ≡ c.args.starts.now = take_all c.loop-start.start-index c.args.starts.now (omega arith) in
    subst (λ (ss : List Seen). AreNodesOf t go ss (map (start_tree t.nodes) c.args.starts.now) c.loop-start.nodes.items) (sym c.into_seens.ensures)
    (nodes_grow t go c.loop-start.builder.seens c.complete.new.self.seens c.in_ok-rows.ensures.grows (map (start_tree t.nodes) c.args.starts.now) c.loop-start.nodes.items
    (subst (λ (l : List Start). AreNodesOf t go c.loop-start.builder.seens (map (start_tree t.nodes) l) c.loop-start.nodes.items) end c.loop-start.invariant.nodes))
