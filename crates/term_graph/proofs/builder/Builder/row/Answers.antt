use Rattle.std.proofs.Common.{◌+◌, ◌<◌, ℕ, List, subst, sym}
use Rattle.akl_terms.specs.Tree.{Tree}
use Rattle.rational_unify.specs.Known.{end_of}
use Rattle.term_graph.specs.Building.{IsNumbered, IsRowBefore, argument_of, count_of}
use Rattle.term_graph.proofs.Places.{grows-on, row-more, argument-is, count-is}
use Rattle.term_graph.proofs.Reaching.{reaches-argument}
use Rattle.term_graph.proofs.builder.Builder.row.Goals as goal

pub loop-k-preserved : goal.loop-k-preserved
loop-k-preserved g c =
    let go : Tree → Tree = end_of c.args.templates.now.nodes (g.K.Lookup.bindings c.args.form.now) in
    let numbered : IsNumbered c.args.templates.now go c.loop-k.self c.number.new.self c.in_ok-node.node (argument_of c.args.templates.now.nodes c.args.seen c.loop-k.k) =
    subst (λ (u : Tree). IsNumbered c.args.templates.now go c.loop-k.self c.number.new.self c.in_ok-node.node u) (sym (argument-is c.args.templates.now c.args.seen c.in-Some.place c.loop-k.k c.loop-k.invariant.place_is)) c.in_ok-node.ensures in
    let less : c.loop-k.k < count_of c.args.seen = subst (λ (n : ℕ). c.loop-k.k < n) (sym (count-is c.args.seen c.in-Some.place c.loop-k.invariant.place_is)) c.loop-k-test.true in
    record {
      building = c.in_ok-node.ensures.building;
      grows = grows-on c.loop-k.invariant.grows c.in_ok-node.ensures.grows;
      row = subst (λ (xs : List ℕ). IsRowBefore c.args.templates.now go c.number.new.self.seens c.args.seen xs (c.loop-k.k + 1)) (sym c.in_ok-push.ensures.items)
          (row-more c.args.templates.now go c.loop-k.self.seens c.number.new.self.seens c.args.seen c.loop-k.row.items c.loop-k.k c.in_ok-node.node c.loop-k.invariant.row c.in_ok-node.ensures.grows numbered.node);
      reaches = reaches-argument c.args.templates.now go c.args.seen c.loop-k.k c.args.self.now c.loop-k.self c.number.new.self c.in_ok-node.node less numbered c.loop-k.invariant.reaches;
      place_is = c.loop-k.invariant.place_is;
    }
