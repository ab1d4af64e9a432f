use Rattle.std.proofs.Common.{◌≡◌, ◌<◌, ℕ, List, ◌++◌, length, take, ap, ◌∙◌, arith}
use Rattle.std.proofs.lemmas.List.{take_more}
use Rattle.tree_parts.specs.Firsts.{at_node}
use Rattle.tree_parts.specs.Lists.{list_at}
use Rattle.tree_parts.proofs.Grouping.{items_of, list-read}
use Rattle.tree_parts.proofs.Telling.{hits-more, hits-same}
use Rattle.tree_parts.proofs.naming.hits.Goals as goal
use Rattle.tree_parts.proofs.naming.hits.Goals.{then-node-names+then-names-node+in_ok-extend_from_slice, else-node-names, else-node-names-via-then-node-names+else-names-node, else-node-names-via-else-node-names}

pub loop-node-preserved : goal.loop-node-preserved
loop-node-preserved c =
    let node : ℕ = at_node c.args.nodes.now c.loop-node.node-index in
    let before : List ℕ = take c.loop-node.node-index c.args.nodes.now in
    rw (take_more c.args.nodes.now c.loop-node.node-index 0 c.loop-node-test.true)
    (elim c.if-node-names.branch [
      | then-node-names+then-names-node+in_ok-extend_from_slice w ↦
          let l : node < length c.args.names.now = w.if-node-names.true in
          let is : at_node c.args.names.now node ≡ c.args.name = w.if-names-node.true in
          let within : node < length c.args.into.now = omega (arith, l, c.requires.size) in
          let read : w.deref.result.now ≡ list_at (items_of c.args.into.now) node = w.deref.ensures.value ∙ list-read c.args.into.now node w.index-into-node.result within w.index-into-node.is in
          let items : c.if-node-names.hits.items ≡ c.loop-node.hits.items ++ list_at (items_of c.args.into.now) node = ap (λ v. v.items) w.hits-is ∙ w.in_ok-extend_from_slice.ensures.items ∙ ap (λ (xs : List ℕ). c.loop-node.hits.items ++ xs) read in
          rw items (hits-more c.args.names.now (items_of c.args.into.now) c.args.name before c.loop-node.hits.items node l is c.loop-node.invariant)
      | else-node-names w ↦
          let items : c.if-node-names.hits.items ≡ c.loop-node.hits.items = ap (λ v. v.items) w.hits-is in
          rw items (hits-same c.args.names.now (items_of c.args.into.now) c.args.name before c.loop-node.hits.items node
          (λ l e. elim w.else-node-names.branch [
            | else-node-names-via-then-node-names+else-names-node x ↦ absurd (omega (arith, e, x.if-names-node.false))
            | else-node-names-via-else-node-names x ↦ absurd (omega (arith, l, x.if-node-names.false))
          ]) c.loop-node.invariant)
    ])
