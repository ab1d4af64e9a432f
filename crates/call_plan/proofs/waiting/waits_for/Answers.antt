use Rattle.std.proofs.Common.{List, length, ◌∙◌, ap}
use Rattle.local_store.specs.Stored.{Stored}
use Rattle.local_store.proofs.Known.{whole-known}
use Rattle.call_plan.proofs.waiting.waits_for.Goals as goal

pub first_waits-requires : goal.first_waits-requires
first_waits-requires c =
    whole-known c.chain-chain.result.nodes c.chain-chain.result.stores c.known.result c.known.ensures.solved (c.if-known-stores.false ∙ ap (λ (ss : List Stored). length ss) c.stores.ensures)
