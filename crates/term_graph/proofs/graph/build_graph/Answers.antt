use Rattle.std.proofs.Common.{rules, ◌≡◌, ◌+◌, ℕ, List, length, Some, refl, subst, sym}
use Rattle.std.specs.Prelude.{slice_get}
use Rattle.std.proofs.lemmas.Option.{slice_get_read}
use Rattle.akl_terms.specs.declared.term.Seen.{Seen}
use Rattle.akl_terms.specs.Tree.{Tree}
use Rattle.rational_unify.specs.Known.{end_of}
use Rattle.term_graph.specs.Building.{AreEndsBefore}
use Rattle.term_graph.proofs.Places.{ends-grow}
use Rattle.term_graph.proofs.Rows.{ends-more}
use Rattle.term_graph.proofs.graph.build_graph.Goals as goal

pub loop-line-preserved : goal.loop-line-preserved
loop-line-preserved g c =
    let go : Tree → Tree = end_of c.args.templates.now.nodes (g.K.Lookup.bindings c.args.form.now) in
    let at : slice_get c.args.shown.now c.loop-line.line-index ≡ Some c.line-item.result = slice_get_read c.args.shown.now (length c.args.shown.now) c.loop-line.line-index c.line-item.result refl c.loop-line-test.true c.line-item.is in
    record {
      building = c.in_ok-node.ensures.building;
      nodes = subst (λ (xs : List ℕ). AreEndsBefore c.args.templates.now go c.number.new.self.seens c.args.shown.now xs (c.loop-line.line-index + 1)) (sym c.in_ok-push.ensures.items)
          (ends-more c.args.templates.now go c.loop-line.builder.seens c.number.new.self.seens c.args.shown.now c.loop-line.nodes.items c.loop-line.line-index c.in_ok-node.node c.line-item.result c.loop-line.invariant.nodes c.in_ok-node.ensures.grows at c.in_ok-node.ensures.node);
    }

pub returns-clause-shown : goal.returns-clause-shown
returns-clause-shown g c =
    let go : Tree → Tree = end_of c.args.templates.now.nodes (g.K.Lookup.bindings c.args.form.now) in
    let end : c.loop-line.line-index ≡ length c.args.shown.now = search rules in
    subst (λ (ss : List Seen). AreEndsBefore c.args.templates.now go ss c.args.shown.now c.loop-line.nodes.items (length c.args.shown.now)) (sym c.into_seens.ensures)
    (subst (AreEndsBefore c.args.templates.now go c.complete.new.self.seens c.args.shown.now c.loop-line.nodes.items) end (ends-grow c.in_ok-rows.ensures.grows c.loop-line.invariant.nodes))
