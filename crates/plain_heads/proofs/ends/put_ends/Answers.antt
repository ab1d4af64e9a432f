use Rattle.std.proofs.Common.{length-append, arith}
use Rattle.akl_terms.specs.declared.term.Term.{Term}
use Rattle.local_store.specs.Chained.{bindings_from}
use Rattle.plain_heads.proofs.NodeEnds.{ends_further}
use Rattle.plain_heads.proofs.ends.put_ends.Goals as goal

pub loop-index-preserved : goal.loop-index-preserved
loop-index-preserved c =
    let end = rw (c.templates.ensures.nodes, c.in_ok-at.ensures, ← c.loop-index.invariant.1) at c.chain_end-end.ensures in
    rw c.in_ok-push.ensures.ok (
      ends_further c.args.chain.now.nodes (bindings_from c.args.chain.now.stores) c.args.arguments.frame c.loop-index.ends.items c.args.arguments.first c.chain_end-end.result c.loop-index.invariant.0 end,
      omega (arith, length-append {A = Term}, c.loop-index.invariant.1),
    )
