use Rattle.std.proofs.Common.{◌≡◌, ℕ, List, length, map, subst, sym, arith}
use Rattle.std.specs.Global.{Vec}
use Rattle.std.proofs.lemmas.List.{length-map}
use Rattle.std.proofs.lemmas.Result.{IfOk-weaker}
use Rattle.akl_terms.specs.declared.term.Seen.{Seen}
use Rattle.akl_terms.specs.Tree.{Tree}
use Rattle.rational_unify.specs.Known.{end_of}
use Rattle.cycle_marks.specs.Components.{rank_of, is_cyclic}
use Rattle.cycle_marks.specs.Rows.{AreRanked}
use Rattle.cycle_marks.specs.Rows as edges
use Rattle.tree_parts.specs.Firsts.{AreFirsts}
use Rattle.tree_parts.specs.Parts as parts
use Rattle.tree_classes.specs.Classes.{AreClasses}
use Rattle.tree_classes.specs.Keys.{top_key}
use Rattle.tree_classes.proofs.Beginnings.{tell-beginnings, even}
use Rattle.tree_classes.proofs.Decided.{edges-within, entries-within}
use Rattle.answer_lines.proofs.Decided.{written, long-written, forest-lines, long-forest-lines}
use Rattle.answer_lines.proofs.answer.answer_lines.Goals as goal

pub find_components-requires : goal.find_components-requires
find_components-requires g c =
    let graph = c.in_ok-graph.graph in
    subst (λ (rows : List (Vec ℕ)). edges.AreWithin (map (λ v. v.items) rows)) (sym c.deref.ensures.value)
    (edges-within c.args.templates.now (end_of c.args.templates.now.nodes (g.K.Lookup.bindings c.args.form.now)) graph.seens.items (map (λ v. v.items) graph.rows.items) c.in_ok-graph.ensures.graph c.in_ok-graph.ensures.built)

pub returns-then-not-has_cycle-clause-text : goal.returns-then-not-has_cycle-clause-text
returns-then-not-has_cycle-clause-text g c =
    let graph = c.in_ok-graph.graph in
    IfOk-weaker c.answer.result _ _
    (λ text p. written c.args.templates.now (end_of c.args.templates.now.nodes (g.K.Lookup.bindings c.args.form.now)) graph.seens.items (map (λ v. v.items) graph.rows.items) c.in_ok-graph.ensures.graph c.in_ok-graph.ensures.built c.args.shown.now text.items p)
    c.answer.ensures.text

pub returns-then-not-has_cycle-clause-long : goal.returns-then-not-has_cycle-clause-long
returns-then-not-has_cycle-clause-long g c e =
    let graph = c.in_ok-graph.graph in
    let rows : List (List ℕ) = map (λ v. v.items) graph.rows.items in
    let marks = c.in_ok-components.components in
    let ranked : AreRanked rows (rank_of marks) (is_cyclic marks) = subst (λ (vs : List (Vec ℕ)). AreRanked (map (λ v. v.items) vs) (rank_of marks) (is_cyclic marks)) c.deref.ensures.value c.in_ok-components.ensures in
    let size : length rows ≡ length graph.rows.items = length-map graph.rows.items (λ v. v.items) in
    let count : c.len.result ≡ length graph.rows.items = omega (arith, c.len.ensures, graph.rows.ok) in
    long-written c.args.templates.now (end_of c.args.templates.now.nodes (g.K.Lookup.bindings c.args.form.now)) graph.seens.items rows c.in_ok-graph.ensures.graph c.in_ok-graph.ensures.built marks ranked
    (λ i l. c.has_cycle.ensures c.if-not-has_cycle.true i (omega (arith, l, size, count))) c.args.shown.now graph.shown.items c.in_ok-graph.ensures.shown (c.answer.ensures.long e)

pub find_classes-requires-clause-within : goal.find_classes-requires-clause-within
find_classes-requires-clause-within g c =
    let graph = c.in_ok-graph.graph in
    subst (λ (rows : List (Vec ℕ)). parts.AreWithin (map (λ v. v.items) rows)) (sym c.deref-3.ensures.value)
    (entries-within c.args.templates.now (end_of c.args.templates.now.nodes (g.K.Lookup.bindings c.args.form.now)) graph.seens.items (map (λ v. v.items) graph.rows.items) c.in_ok-graph.ensures.graph c.in_ok-graph.ensures.built)

pub find_classes-requires-clause-even : goal.find_classes-requires-clause-even
find_classes-requires-clause-even g c =
    let graph = c.in_ok-graph.graph in
    let firsts : AreFirsts (map top_key graph.seens.items) c.in_ok-tops.tops.items = subst (λ (seens : List Seen). AreFirsts (map top_key seens) c.in_ok-tops.tops.items) c.deref-2.ensures.value c.in_ok-tops.ensures in
    subst (λ (rows : List (Vec ℕ)). parts.AreEven (map (λ v. v.items) rows) c.in_ok-tops.tops.items) (sym c.deref-3.ensures.value)
    (even c.args.templates.now graph.seens.items c.in_ok-tops.tops.items firsts (end_of c.args.templates.now.nodes (g.K.Lookup.bindings c.args.form.now)) (map (λ v. v.items) graph.rows.items) c.in_ok-graph.ensures.graph)

pub returns-clause-text : goal.returns-clause-text
returns-clause-text g c =
    let graph = c.in_ok-graph.graph in
    let t = c.args.templates.now in
    let go : Tree → Tree = end_of t.nodes (g.K.Lookup.bindings c.args.form.now) in
    let rows : List (List ℕ) = map (λ v. v.items) graph.rows.items in
    let tops : List ℕ = c.in_ok-tops.tops.items in
    let classes = c.in_ok-classes.classes in
    let firsts : AreFirsts (map top_key graph.seens.items) tops = subst (λ (seens : List Seen). AreFirsts (map top_key seens) tops) c.deref-2.ensures.value c.in_ok-tops.ensures in
    let are_classes : AreClasses rows tops classes = subst (λ (vs : List (Vec ℕ)). AreClasses (map (λ v. v.items) vs) tops classes) c.deref-3.ensures.value c.in_ok-classes.ensures in
    IfOk-weaker c.graph_lines.result _ _
    (λ text f. forest-lines t go graph.seens.items rows c.in_ok-graph.ensures.graph c.in_ok-graph.ensures.built tops classes (tell-beginnings t graph.seens.items tops firsts) are_classes c.args.shown.now graph.shown.items c.in_ok-graph.ensures.shown text.items f)
    c.graph_lines.ensures.text

pub returns-clause-long : goal.returns-clause-long
returns-clause-long g c e =
    let graph = c.in_ok-graph.graph in
    let t = c.args.templates.now in
    let go : Tree → Tree = end_of t.nodes (g.K.Lookup.bindings c.args.form.now) in
    let rows : List (List ℕ) = map (λ v. v.items) graph.rows.items in
    let tops : List ℕ = c.in_ok-tops.tops.items in
    let classes = c.in_ok-classes.classes in
    let firsts : AreFirsts (map top_key graph.seens.items) tops = subst (λ (seens : List Seen). AreFirsts (map top_key seens) tops) c.deref-2.ensures.value c.in_ok-tops.ensures in
    let are_classes : AreClasses rows tops classes = subst (λ (vs : List (Vec ℕ)). AreClasses (map (λ v. v.items) vs) tops classes) c.deref-3.ensures.value c.in_ok-classes.ensures in
    long-forest-lines t go graph.seens.items rows c.in_ok-graph.ensures.graph c.in_ok-graph.ensures.built tops classes (tell-beginnings t graph.seens.items tops firsts) are_classes c.args.shown.now graph.shown.items c.in_ok-graph.ensures.shown (c.graph_lines.ensures.long e)
