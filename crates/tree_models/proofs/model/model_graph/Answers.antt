use Rattle.std.proofs.Common.{◌≡◌, ◌++◌, List, map, ap, ◌∙◌, subst}
use Rattle.akl_terms.specs.declared.name.Var.{Var}
use Rattle.akl_terms.specs.declared.program.ShownTerm.{ShownTerm}
use Rattle.akl_terms.specs.Tree.{Tree}
use Rattle.rational_unify.specs.Known.{end_of}
use Rattle.tree_models.specs.declared.starts.Start.{Start}
use Rattle.tree_models.specs.Starts.{start_tree, AreNodesOf}
use Rattle.tree_models.proofs.ModelTables.{starts_shown}
use Rattle.tree_models.proofs.model.model_graph.Goals as goal

pub returns : goal.returns
returns g c =
    let t = c.args.templates.now in
    let go : Tree → Tree = end_of t.nodes (g.K.Lookup.bindings c.args.form.now) in
    let of : c.deref.result.now ≡ map (λ (s : ShownTerm). Start.Term s.term) c.args.shown.now ++ map (λ (x : Var). Start.Variable x) c.args.variables.now =
    c.deref.ensures.value ∙ c.in_ok-push_variables.ensures ∙ ap (λ (l : List Start). l ++ map (λ (x : Var). Start.Variable x) c.args.variables.now) c.in_ok-starts.ensures in
    record {
      graph = c.in_ok-graph.ensures.graph;
      built = c.in_ok-graph.ensures.built;
      starts = subst (λ (us : List Tree). AreNodesOf t go c.in_ok-graph.graph.seens.items us c.in_ok-graph.graph.starts.items) (ap (map (start_tree t.nodes)) of ∙ starts_shown t.nodes c.args.shown.now c.args.variables.now) c.in_ok-graph.ensures.starts;
    }
