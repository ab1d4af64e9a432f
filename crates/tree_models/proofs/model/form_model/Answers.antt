use Rattle.std.proofs.Common.{◌≡◌, ◌+◌, ℕ, List, length, map, subst, sym, arith}
use Rattle.std.specs.Global.{Vec}
use Rattle.std.proofs.lemmas.Result.{IfOk-weaker}
use Rattle.akl_terms.specs.declared.term.Seen.{Seen}
use Rattle.akl_terms.specs.Tree.{Tree}
use Rattle.rational_unify.specs.Known.{end_of}
use Rattle.tree_parts.specs.Firsts.{AreFirsts}
use Rattle.tree_parts.specs.Parts as parts
use Rattle.tree_classes.specs.Classes.{AreClasses}
use Rattle.tree_classes.specs.Keys.{top_key}
use Rattle.tree_classes.proofs.Beginnings.{tell-beginnings, even}
use Rattle.tree_classes.proofs.Decided.{entries-within}
use Rattle.tree_models.specs.Made.{rows_of, IsMade}
use Rattle.tree_models.proofs.ModelTables.{starts_length, table_made}
use Rattle.tree_models.proofs.model.form_model.Goals as goal

pub find_classes-requires-clause-within : goal.find_classes-requires-clause-within
find_classes-requires-clause-within g c =
    let graph = c.in_ok-graph.graph in
    let t = c.args.templates.now in
    let go : Tree → Tree = end_of t.nodes (g.K.Lookup.bindings c.args.form.now) in
    subst (λ (rows : List (Vec ℕ)). parts.AreWithin (map (λ v. v.items) rows)) (sym c.deref-2.ensures.value) (entries-within t go graph.seens.items (rows_of graph) c.in_ok-graph.ensures.graph c.in_ok-graph.ensures.built)

pub find_classes-requires-clause-even : goal.find_classes-requires-clause-even
find_classes-requires-clause-even g c =
    let graph = c.in_ok-graph.graph in
    let t = c.args.templates.now in
    let go : Tree → Tree = end_of t.nodes (g.K.Lookup.bindings c.args.form.now) in
    let firsts : AreFirsts (map top_key graph.seens.items) c.in_ok-tops.tops.items = subst (λ (seens : List Seen). AreFirsts (map top_key seens) c.in_ok-tops.tops.items) c.deref.ensures.value c.in_ok-tops.ensures in
    subst (λ (rows : List (Vec ℕ)). parts.AreEven (map (λ v. v.items) rows) c.in_ok-tops.tops.items) (sym c.deref-2.ensures.value)
    (even t graph.seens.items c.in_ok-tops.tops.items firsts go (rows_of graph) c.in_ok-graph.ensures.graph)

pub make_model-requires-clause-within : goal.make_model-requires-clause-within
make_model-requires-clause-within g c =
    let t = c.args.templates.now in
    let go : Tree → Tree = end_of t.nodes (g.K.Lookup.bindings c.args.form.now) in
    let size : length c.in_ok-graph.graph.starts.items ≡ length c.args.shown.now + length c.args.variables.now = starts_length t go c.args.shown.now c.args.variables.now c.in_ok-graph.graph c.in_ok-graph.ensures in
    omega (arith, size)

pub make_model-requires-clause-even : goal.make_model-requires-clause-even
make_model-requires-clause-even g c =
    let t = c.args.templates.now in
    let go : Tree → Tree = end_of t.nodes (g.K.Lookup.bindings c.args.form.now) in
    let size : length c.in_ok-graph.graph.starts.items ≡ length c.args.shown.now + length c.args.variables.now = starts_length t go c.args.shown.now c.args.variables.now c.in_ok-graph.graph c.in_ok-graph.ensures in
    omega (arith, size)

pub returns : goal.returns
returns g c =
    let graph = c.in_ok-graph.graph in
    let t = c.args.templates.now in
    let go : Tree → Tree = end_of t.nodes (g.K.Lookup.bindings c.args.form.now) in
    let tops : List ℕ = c.in_ok-tops.tops.items in
    let classes = c.in_ok-classes.classes in
    let firsts : AreFirsts (map top_key graph.seens.items) tops = subst (λ (seens : List Seen). AreFirsts (map top_key seens) tops) c.deref.ensures.value c.in_ok-tops.ensures in
    let are_classes : AreClasses (rows_of graph) tops classes = subst (λ (vs : List (Vec ℕ)). AreClasses (map (λ v. v.items) vs) tops classes) c.deref-2.ensures.value c.in_ok-classes.ensures in
    IfOk-weaker c.make_model.result _ _
    (λ m d. let made : IsMade graph classes.blocks (length c.args.shown.now) c.args.variables.now m = subst (λ (fs : List ℕ). IsMade graph fs (length c.args.shown.now) c.args.variables.now m) c.firsts.ensures d in
    λ E r. table_made t go c.args.shown.now c.args.variables.now graph c.in_ok-graph.ensures tops classes (tell-beginnings t graph.seens.items tops firsts) are_classes m made E r)
    c.make_model.ensures
