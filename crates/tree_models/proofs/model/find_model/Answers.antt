use Rattle.std.proofs.Common.{◌≡◌, List, subst, ap, ◌∙◌}
use Rattle.std.proofs.lemmas.Result.{IfOk-weaker}
use Rattle.akl_terms.specs.declared.name.Var.{Var}
use Rattle.akl_terms.specs.declared.term.Term.{Term}
use Rattle.local_store.specs.Chained.{bindings_from, equations_of}
use Rattle.tree_models.specs.Found.{IsTableOf}
use Rattle.tree_models.specs.Variables.{AreVariablesOf}
use Rattle.tree_models.proofs.ModelTables.{is_model}
use Rattle.tree_models.proofs.model.find_model.Goals as goal

pub returns : goal.returns
returns c =
    let nodes = c.args.chain.now.nodes in
    let bs : List (Var × Term) = bindings_from c.args.chain.now.stores in
    let listed : c.deref.result.now ≡ bs = c.deref.ensures.value ∙ c.in_ok-bindings.ensures ∙ ap bindings_from c.stores.ensures in
    let given : AreVariablesOf nodes bs c.args.shown.now c.in_ok-variables.variables.items =
    subst (λ (l : List (Var × Term)). AreVariablesOf nodes l c.args.shown.now c.in_ok-variables.variables.items) listed (rw c.templates.ensures.nodes at c.in_ok-variables.ensures) in
    let same : c.deref-2.result.now ≡ c.in_ok-variables.variables.items = c.deref-2.ensures.value in
    IfOk-weaker c.chain_model.result _ _
    (λ m t. is_model nodes bs c.args.shown.now c.in_ok-variables.variables.items given m (subst (λ (xs : List Var). IsTableOf nodes (equations_of nodes c.args.chain.now.stores) c.args.shown.now xs m) same t)) c.chain_model.ensures
