use Rattle.std.proofs.Common.{length, refl, take, drop}
use Rattle.local_store.specs.Chained.{bindings_from}
use Rattle.local_store.proofs.Known.{whole-known, drop-whole}
use Rattle.local_store.proofs.Parts.{part-found, from-split}
use Rattle.entail_test.proofs.Answering.{reads-solved}
use Rattle.entail_test.proofs.outside.told_in.Goals as goal

pub shown-requires-clause-found : goal.shown-requires-clause-found
shown-requires-clause-found c =
    rw (c.as_slice.ensures, c.in_ok-added.ensures, c.stores.ensures, drop-whole c.args.chain.now.stores c.args.depth)
    (part-found c.args.chain.now.nodes c.args.chain.now.stores (bindings_from (take c.args.depth c.args.chain.now.stores)) (bindings_from (drop c.args.depth c.args.chain.now.stores))
    (from-split c.args.chain.now.stores c.args.depth) (whole-known c.args.chain.now.nodes c.args.chain.now.stores (length c.args.chain.now.stores) c.requires.solved refl))

pub returns : goal.returns
returns c = reads-solved c.args.chain.now.nodes c.args.chain.now.stores c.args.depth c.in_ok-on.on.items
    (whole-known c.args.chain.now.nodes c.args.chain.now.stores (length c.args.chain.now.stores) c.requires.solved refl)
    (rw (c.templates.ensures.nodes, c.outer.ensures.stores, c.as_slice.ensures, c.in_ok-added.ensures, c.stores.ensures, drop-whole c.args.chain.now.stores c.args.depth) at c.in_ok-on.ensures)
