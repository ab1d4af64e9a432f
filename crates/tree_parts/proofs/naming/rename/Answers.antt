use Rattle.std.proofs.Common.{◌≡◌, ℕ, List, length, take, ap, arith}
use Rattle.std.proofs.Math.ListN.{set}
use Rattle.std.proofs.lemmas.List.{take_more}
use Rattle.tree_parts.specs.Firsts.{at_node}
use Rattle.tree_parts.proofs.Splitting.{renamed-more, renamed-skip}
use Rattle.tree_parts.proofs.naming.rename.Goals as goal
use Rattle.tree_parts.proofs.naming.rename.Goals.{then-node-len, else-node-len}

pub loop-node-preserved : goal.loop-node-preserved
loop-node-preserved c =
    let node : ℕ = at_node c.args.nodes.now c.loop-node.node-index in
    let before : List ℕ = take c.loop-node.node-index c.args.nodes.now in
    let size : c.len.result ≡ length c.loop-node.names.items = omega (arith, c.len.ensures, c.loop-node.names.ok) in
    rw (take_more c.args.nodes.now c.loop-node.node-index 0 c.loop-node-test.true)
    (elim c.if-node-len.branch [
      | then-node-len w ↦
          let items : c.if-node-len.names.items ≡ set c.loop-node.names.items node c.args.name = ap (λ v. v.items) w.names-is in
          rw items (renamed-more c.args.names.now.items c.loop-node.names.items before node c.args.name (omega (arith, w.if-node-len.true, size)) c.loop-node.invariant)
      | else-node-len w ↦
          let items : c.if-node-len.names.items ≡ c.loop-node.names.items = ap (λ v. v.items) w.names-is in
          rw items (renamed-skip c.args.names.now.items c.loop-node.names.items before node c.args.name (λ l. omega (arith, l, w.if-node-len.false, size)) c.loop-node.invariant)
    ])
