use Rattle.std.proofs.Common.{◌≡◌, ◌++◌, List, map, ap, ◌∙◌, subst}
use Rattle.akl_terms.specs.declared.name.Var.{Var}
use Rattle.akl_terms.specs.declared.program.ShownTerm.{ShownTerm}
use Rattle.akl_terms.specs.declared.term.Term.{Term}
use Rattle.tree_models.specs.declared.starts.Start.{Start}
use Rattle.tree_models.specs.Variables.{free_variables, AreOnce}
use Rattle.tree_models.proofs.Occurring.{are_variables}
use Rattle.tree_models.proofs.variables.variables_of.Goals as goal

pub returns : goal.returns
returns c =
    let g = c.in_ok-graph.graph in
    let of : c.deref.result.now ≡ map (λ (s : ShownTerm). Start.Term s.term) c.args.shown.now ++ map (λ (b : Var × Term). Start.Term b.1) c.args.bindings.now =
    c.deref.ensures.value ∙ c.in_ok-push_bound.ensures ∙ ap (λ (l : List Start). l ++ map (λ (b : Var × Term). Start.Term b.1) c.args.bindings.now) c.in_ok-starts.ensures in
    let free : c.in_ok-list.list.items ≡ free_variables g.seens.items = c.in_ok-list.ensures ∙ ap free_variables c.deref-2.ensures.value in
    let listed : c.push_keys.new.list.items ≡ free_variables g.seens.items ++ map (λ (b : Var × Term). b.0) c.args.bindings.now =
    c.in_ok-push_keys.ensures ∙ ap (λ (l : List Var). l ++ map (λ (b : Var × Term). b.0) c.args.bindings.now) free in
    are_variables c.args.templates.now c.args.bindings.now c.args.shown.now g.seens.items (map (λ v. v.items) g.rows.items) g.starts.items c.deref.result.now of c.in_ok-graph.ensures.built c.in_ok-graph.ensures.starts c.in_ok-graph.ensures.reached
    c.put_in_order.new.list.items (subst (λ (l : List Var). AreOnce l c.put_in_order.new.list.items) listed c.put_in_order.ensures)
